-- What a frame file carries, as the frame call takes it: the state, and what each frame lends. Definitions only.
use Rattle.std.specs.Prelude.{List, [], ℕ, ◌+◌, ◌-◌, ◌*◌, Float, take, drop}
use Rattle.bits.specs.Syntax.{Outcome, accepted, refused}
use Rattle.encoding.specs.Encoding.{number_at}
use Rattle.fill.specs.Tab.{tab}
use Rattle.frame_file.specs.File.{step_at, value_at, head_at, payload_at, values_at}
use Rattle.frame_file.specs.declared.numbers.Numbers.{Numbers}
use Rattle.mc_config.specs.Config.{config_of, layout_of}
use Rattle.mc_config.specs.declared.McHeader.{McHeader}
use Rattle.mc_base.specs.Base.{base_from}
use Rattle.mc_state.specs.Answer.{lent_of}
use Rattle.mc_state.specs.Carry.{Carrying, converted_over}
use Rattle.mc_state.specs.Frame.{Lent, fresh}
use Rattle.mc_state.specs.declared.McDecodeState.{McDecodeState}
use Rattle.mc_fields.specs.Lent.{head_of}
use Rattle.mc_fields.specs.declared.McStatus.{McStatus}

-- ---- the state that follows the opening

-- in the first version a count, a tally and the history, which are converted
abbrev pub first_state : List ℕ → Carrying
first_state bytes = converted_over (tab (value_at bytes 5) 576) (number_at bytes 0 1) 0 (number_at bytes 1 4) fresh

-- in the second the tallies, the count, the layout and the history
abbrev pub second_state : List ℕ → McDecodeState
second_state bytes = record { pred_hist = tab (value_at bytes 34) 576; layout_len = number_at bytes 32 1; layout = number_at bytes 33 1; accepted = tab (step_at bytes) 8 }

-- ---- a frame

-- the elements from a to before e
abbrev pub between : {A : Type 0} → ℕ → ℕ → List A → List A
between a e xs = take (e - a) (drop a xs)

-- the head and the payload among these bytes
abbrev pub head_in : Numbers → List ℕ → List ℕ
head_in n body = between (head_at n) (payload_at n) body

abbrev pub payload_in : Numbers → List ℕ → List ℕ
payload_in n body = between (payload_at n) (values_at n) body

-- what is lent of this head, payload, step counts and values
abbrev pub lent_from : Numbers → List ℕ → List ℕ → List ℕ → List Float → Lent
lent_from n head payload steps values =
    let channels = n.base_channels in
    lent_of head n.head_bits payload n.payload_bits n.reading n.desk n.rate channels
    (base_from (between 0 1152 values) (between 1152 (1152 * channels) values) (between (1152 * channels) (1152 * channels + 1152) values) (between (1152 * channels + 1152) (2304 * channels) values))
    (between 0 (32 * channels) steps)
    n.lfe_allocation
    (between (32 * channels) (32 * channels + 96) steps)

-- what a frame lends
abbrev pub lent_in : Numbers → List ℕ → Lent
lent_in n body = lent_from n (head_in n body) (payload_in n body) (tab (step_at body) (32 * n.base_channels + 96)) (tab (value_at body (values_at n)) (2304 * n.base_channels))

-- the output channels that a head names; none where it is refused
abbrev pub layout_for : Outcome (McHeader × (ℕ × McStatus)) → ℕ → List ℕ
layout_for (accepted values used) base_channels = layout_of (config_of values.0 base_channels)
layout_for (refused r) base_channels = []

-- those of a frame
abbrev pub layout_in : Numbers → List ℕ → List ℕ
layout_in n body = let l = lent_in n body in layout_for (head_of l.reading l.head l.head_bits l.base_channels) l.base_channels
