-- What a frame's numbers give: a frame, where they have no fault. Definitions only.
use Rattle.std.specs.Prelude.{◌≡◌, Result, Err, MatchOption, IsOkAnd}
use Rattle.frame_file.specs.declared.frame.Frame.{Frame}
use Rattle.frame_file.specs.declared.frame.FrameFault.{FrameFault}
use Rattle.frame_file.specs.declared.numbers.Numbers.{Numbers}
use Rattle.frame_file.specs.File.{fault_of}

abbrev pub Checks : Numbers → Result Frame FrameFault → Type 0
Checks n result = MatchOption (fault_of n) (IsOkAnd result (λ frame. frame.numbers ≡ n)) (λ fault. result ≡ Err fault)
