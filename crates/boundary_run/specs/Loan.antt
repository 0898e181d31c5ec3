-- What the frames lend: base values, step counts and payload bytes, each by its place.
use Rattle.std.specs.Prelude.{cond, List, ℕ, ◌/◌, ◌%◌, leb, ltb, Float, pos, get_or, replicate}
use Rattle.std.specs.Float.{binary64}
use Rattle.std.specs.Float.Ieee.{of_bits, of_int, neg}
use Rattle.floats.specs.Binary64.{◌⊕◌, ◌⊘◌}
use Rattle.fill.specs.Tab.{tab}
use Rattle.boundary_run.specs.declared.loan.Loan.{Loan}
use Rattle.boundary_run.specs.declared.string.Bits.{Bits}
use Rattle.boundary_run.specs.String.{bytes_of}

-- k / 1024 above the first
abbrev pub ramp_at : Float → ℕ → Float
ramp_at start k = start ⊕ of_int binary64 (pos k) ⊘ of_bits binary64 0x4090000000000000

abbrev pub ramp_of : Float → List Float
ramp_of start = tab (ramp_at start) 1152

-- the step count in the first subbands of the first channels
unfoldable pub step_at : ℕ → ℕ → ℕ → ℕ → ℕ
step_at channels subbands count k = cond (ltb (k / 32) channels) (cond (ltb (k % 32) subbands) count 0) 0

-- 255 from the first byte to before the end
unfoldable pub ones_at : ℕ → ℕ → ℕ → ℕ
ones_at first end k = cond (leb first k) (cond (ltb k end) 255 0) 0

-- these bytes, and 0 after them
unfoldable pub byte_from : List ℕ → ℕ → ℕ
byte_from start k = cond (ltb k 29) (get_or start k 0) 0

-- the head under reading 1 from desk 0, a stereo base at 44,100 Hz whose channels begin with 0.25 and -1.5, and no payload
abbrev pub loan_of : Bits → Loan
loan_of head =
    record {
      head = bytes_of head.bits;
      head_bits = head.at;
      payload = replicate 6892 0;
      payload_bits = 0;
      reading = 1;
      desk = 0;
      rate = 44100;
      base_channels = 2;
      left = of_bits binary64 0x3FD0000000000000;
      right = neg (of_bits binary64 0x3FF8000000000000);
      lfe_allocation = 0;
      steps = replicate 96 0;
    }
