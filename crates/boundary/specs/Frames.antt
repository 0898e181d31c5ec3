-- What each frame lends. Definitions only.
use Rattle.std.specs.Prelude.{List, [], ◌∷◌, ℕ, ◌+◌, ◌*◌, ◌/◌, Float, replicate}
use Rattle.std.specs.Float.{binary64}
use Rattle.std.specs.Float.Ieee.{of_bits, neg}
use Rattle.fill.specs.Tab.{tab}
use Rattle.boundary_run.specs.declared.loan.Loan.{Loan}
use Rattle.boundary_run.specs.declared.string.Bits.{Bits}
use Rattle.boundary_run.specs.String.{nothing, field_of, fields_of, bytes_of}
use Rattle.boundary_run.specs.Loan.{step_at, byte_from, ones_at}
use Rattle.boundary.specs.Heads.{written, plain_head, crossed_head, longest_head}

-- from desk 0 at 44,100 Hz, the right base channel from -1.5 on; the rest as named, first the reading
abbrev pub lent : ℕ → Bits → ℕ → List ℕ → ℕ → ℕ → Float → ℕ → List ℕ → Loan
lent reading head head_bits payload payload_bits base_channels left lfe steps =
    record {
      head = bytes_of head.bits;
      head_bits = head_bits;
      payload = payload;
      payload_bits = payload_bits;
      reading = reading;
      desk = 0;
      rate = 44100;
      base_channels = base_channels;
      left = left;
      right = neg (of_bits binary64 0x3FF8000000000000);
      lfe_allocation = lfe;
      steps = steps;
    }

abbrev pub quarter : Float
quarter = of_bits binary64 0x3FD0000000000000

abbrev pub no_payload : List ℕ
no_payload = replicate 6892 0

abbrev pub no_steps : List ℕ
no_steps = replicate 96 0

-- a step count in the first subbands of the first channels
abbrev pub first_steps : ℕ → ℕ → ℕ → List ℕ
first_steps channels subbands count = tab (step_at channels subbands count) 96

-- the bytes of some fields, and 0 after them
abbrev pub payload_of : Bits → List ℕ
payload_of b = tab (byte_from (bytes_of b.bits)) 6892

-- nothing transmitted, the left base channel from this value on: 3/2, 3/1 and 2/2 by their heads
abbrev pub empty : Bits → Float → Loan
empty head left = lent 1 head head.at no_payload 0 2 left 0 no_steps

abbrev pub three_two : Float → Loan
three_two left = empty (plain_head 1 2 3 0 0) left

abbrev pub three_one : Float → Loan
three_one left = empty (plain_head 1 1 3 0 0) left

abbrev pub two_two : Float → Loan
two_two left = empty (plain_head 0 2 2 0 0) left

-- 3/2 with a step count in one place; the payload has so many bits, first these and then zeros
abbrev pub one_place : ℕ → Bits → ℕ → Loan
one_place count start payload_bits =
    let head = plain_head 1 2 3 0 0 in lent 1 head head.at (payload_of start) payload_bits 2 quarter 0 (first_steps 1 1 count)

-- 7 steps: scfsi 0, two scalefactors 0 and this one, and twelve granules of three samples of 3 bits
abbrev pub scalefactor_frame : ℕ → Loan
scalefactor_frame code = one_place 7 (written nothing ((2, 0) ∷ (6, 0) ∷ (6, 0) ∷ (6, code) ∷ [])) 128

-- 3 steps: scfsi 0, three scalefactors 0, this group code, and eleven more granules of one of 5 bits, which is 0
abbrev pub group_code_frame : ℕ → Loan
group_code_frame code = one_place 3 (field_of (fields_of (field_of nothing 2 0) 3 6 0) 5 code) 80

-- this LFE scalefactor, and twelve LFE codes of 2 bits
abbrev pub lfe_frame : ℕ → Loan
lfe_frame code =
    let head = plain_head 1 2 3 1 0 in
    lent 1 head head.at (payload_of (written nothing ((6, code) ∷ []))) 30 2 quarter 1 no_steps

-- every field at its longest, in strings of these bit counts
abbrev pub longest_frame : ℕ → ℕ → Loan
longest_frame head_bits payload_bits = lent 1 longest_head head_bits no_payload payload_bits 2 quarter 15 (first_steps 3 30 65535)

-- mono base, phantom centre, second stereo, under a reading: 7 steps in the first subbands, to each 20 bits of scfsi and scalefactors, all 0,
-- and 108 bits of samples, all 1 from the first whole byte on
abbrev pub phantom_frame : ℕ → ℕ → Loan
phantom_frame subbands reading =
    let head = plain_head 3 3 0 0 0 in
    lent reading head head.at (tab (ones_at ((20 * subbands + 7) / 8) (16 * subbands)) 6892) (128 * subbands) 1 quarter 0 (first_steps 1 subbands 7)

-- mono base, no centre, stereo surround
abbrev pub mono_surround : Loan
mono_surround = let head = plain_head 0 2 0 0 0 in lent 1 head head.at no_payload 0 1 quarter 0 no_steps

-- a crosstalk code in group 5
abbrev pub forbidden_frame : ℕ → Loan
forbidden_frame code = empty (crossed_head 5 code 6) quarter

-- the Layer III flag
abbrev pub layer_three : Loan
layer_three = empty (plain_head 1 2 3 0 1) quarter

-- a centre code, no surround and nothing transmitted, under a reading
abbrev pub centre_frame : ℕ → ℕ → Float → Loan
centre_frame code reading left = let head = plain_head code 0 0 0 0 in lent reading head head.at no_payload 0 2 left 0 no_steps

-- a phantom centre and step counts up to its subband 12
abbrev pub barred_frame : Loan
barred_frame = let head = plain_head 3 2 3 0 0 in lent 1 head head.at no_payload 0 2 quarter 0 (first_steps 1 13 7)
