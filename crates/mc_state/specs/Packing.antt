-- The packed answer loses nothing: on what frame calls answer it is one to one.
use Rattle.std.specs.Prelude.{◌≡◌, ◌≤◌, ◌<◌}
use Rattle.bits.specs.Syntax.{accepted, refused}
use Rattle.mc_state.specs.declared.McDecodeState.{McDecodeState}
use Rattle.mc_state.specs.Answer.{packed}
use Rattle.mc_state.specs.Frame.{Lent, Buffers, Answer, frame_of}

-- what the fields of the number hold; an answer with one used count has it in the payload's place, and 0 in the head's
unfoldable pub Packable : Answer → Type 0
Packable (accepted (head_used, excess) used) = (head_used < 16777216) × ((used < 1048576) × (excess < 4096))
Packable (refused x) = (1 ≤ x.number) × ((x.number < 256) × (x.group < 16777216))

-- any two answers that they hold are told apart
abbrev pub Apart : Type 0
Apart = (a b : Answer) → Packable a → Packable b → packed a ≡ packed b → a ≡ b

abbrev pub AnswersPack : Type 0
AnswersPack = (l : Lent) (w : Buffers) (st : McDecodeState) → Packable (frame_of l w st).answer

abbrev pub PackedOnce : Type 0
PackedOnce =
    (l l' : Lent) (w w' : Buffers) (st st' : McDecodeState)
    → packed (frame_of l w st).answer ≡ packed (frame_of l' w' st').answer
    → (frame_of l w st).answer ≡ (frame_of l' w' st').answer
