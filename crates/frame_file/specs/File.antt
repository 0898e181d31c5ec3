-- The layout of a frame file (docs/FRAME_FILE.md). Definitions only.
use Rattle.std.specs.Prelude.{cond, List, ℕ, ◌+◌, ◌*◌, eqb, ltb, Float, length, Option, None, Some, Result, Ok, Err, codes}
use Rattle.std.specs.Float.{binary64}
use Rattle.std.specs.Float.Ieee.{of_bits}
use Rattle.encoding.specs.Encoding.{number_at}
use Rattle.frame_file.specs.declared.frame.FrameFault.{FrameFault}
use Rattle.frame_file.specs.declared.frame.FrameFault.TheVariants.{Call, Carried, BaseChannels, HeadBytes, PayloadBytes}
use Rattle.frame_file.specs.declared.numbers.Numbers.{Numbers}
use Rattle.frame_file.specs.declared.opening.Opening.{Opening}
use Rattle.frame_file.specs.declared.opening.OpeningFault.{OpeningFault}
use Rattle.frame_file.specs.declared.opening.OpeningFault.TheVariants.{Empty, OtherLetters, OpeningCut, Neither0Nor1}
use Rattle.frame_file.specs.declared.opening.Version.{Version}
use Rattle.frame_file.specs.declared.opening.Version.TheVariants.{First, Second}

-- ---- the opening

-- by its first letters, none for other ones
abbrev pub version_of : List ℕ → Option Version
version_of bytes =
    cond (eqb (number_at bytes 0 8) (number_at (codes "MCFRAMES") 0 8)) (Some First)
    (cond (eqb (number_at bytes 0 8) (number_at (codes "MCFRAME2") 0 8)) (Some Second) None)

-- by a number: 2 is the second version, each other number the first
abbrev pub version_from : ℕ → Version
version_from number = cond (eqb number 2) Second First

-- after the letters, of the bytes that could be read
abbrev pub opening_with : Option Version → List ℕ → Result Opening OpeningFault
opening_with None bytes = Err OtherLetters
opening_with (Some version) bytes =
    cond (ltb (length bytes) 13) (Err OpeningCut)
    (cond (ltb 1 (number_at bytes 12 1)) (Err Neither0Nor1) (Ok (record { version = version; frames = number_at bytes 8 4; state_follows = eqb (number_at bytes 12 1) 1 })))

-- of the bytes that could be read, at most 13: the opening that they are, else what is wrong
abbrev pub opening_of : List ℕ → Result Opening OpeningFault
opening_of bytes = cond (eqb (length bytes) 0) (Err Empty) (opening_with (version_of bytes) bytes)

-- ---- steps and values

-- step count k of those that begin with the first byte
abbrev pub step_at : List ℕ → ℕ → ℕ
step_at bytes k = number_at bytes (4 * k) 4

-- value k of those that begin at `at`
abbrev pub value_at : List ℕ → ℕ → ℕ → Float
value_at bytes at k = of_bits binary64 (number_at bytes (at + 8 * k) 8)

-- ---- a frame

-- the bytes of its numbers
abbrev pub number_bytes : Version → ℕ
number_bytes First = 22
number_bytes Second = 32

-- the numbers of both versions, from the byte `at` on
abbrev pub numbers_from : ℕ → ℕ → ℕ → ℕ → List ℕ → ℕ → Numbers
numbers_from call carried reading desk bytes at =
    record {
      call = call;
      carried = carried;
      reading = reading;
      desk = desk;
      rate = number_at bytes at 4;
      base_channels = number_at bytes (at + 4) 1;
      lfe_allocation = number_at bytes (at + 5) 1;
      head_bytes = number_at bytes (at + 6) 4;
      head_bits = number_at bytes (at + 10) 4;
      payload_bytes = number_at bytes (at + 14) 4;
      payload_bits = number_at bytes (at + 18) 4;
    }

-- the second version has four before them; the first means head and payload, no carrying, reading 1 and desk 0
abbrev pub numbers_of : Version → List ℕ → Numbers
numbers_of First bytes = numbers_from 1 0 1 0 bytes 0
numbers_of Second bytes = numbers_from (number_at bytes 0 1) (number_at bytes 1 1) (number_at bytes 2 4) (number_at bytes 6 4) bytes 10

-- none where the rest of the frame can be read; else the first number that no frame may have
abbrev pub fault_of : Numbers → Option FrameFault
fault_of n =
    cond (eqb n.call 1)
    (cond (ltb 1 n.carried) (Some (Carried n.carried))
    (cond (eqb n.base_channels 0) (Some (BaseChannels n.base_channels))
    (cond (ltb 2 n.base_channels) (Some (BaseChannels n.base_channels))
    (cond (ltb 8192 n.head_bytes) (Some (HeadBytes n.head_bytes))
    (cond (ltb 8192 n.payload_bytes) (Some (PayloadBytes n.payload_bytes)) None)))))
    (Some (Call n.call))

-- after the numbers: step counts of four bytes, 32 a base channel and 96 transmitted ones; head; payload; values of eight bytes, 2304 a base channel
abbrev pub head_at : Numbers → ℕ
head_at n = 128 * n.base_channels + 384

abbrev pub payload_at : Numbers → ℕ
payload_at n = head_at n + n.head_bytes

abbrev pub values_at : Numbers → ℕ
values_at n = payload_at n + n.payload_bytes

abbrev pub body_bytes : Numbers → ℕ
body_bytes n = values_at n + 18432 * n.base_channels
