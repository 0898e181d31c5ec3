-- What the parts of the code answer and write, each by the answer of an unpacking. Definitions only.
use Rattle.std.specs.Prelude.{◌≡◌, List, ℕ, Float}
use Rattle.bits.specs.Syntax.{Outcome, accepted, refused}
use Rattle.mc_unpack.specs.Answer.{Tables}
use Rattle.mc_values.specs.Values.{delays_from, coefs_from}
use Rattle.mc_error.specs.Error.{packed_refusal}
use Rattle.part_tables.specs.declared.pack.Buffers as Lending
use Rattle.part_tables.specs.Payload.{Buffers, buffers_from, packed_used, entries, flat_delays, flat_coefs}

abbrev pub scfsi_after : Outcome (Tables × ℕ) → List ℕ → List ℕ
scfsi_after (accepted (t, excess_codes) used) old = entries 96 t.0
scfsi_after (refused x) old = old

abbrev pub delays_after : Outcome (Tables × ℕ) → List ℕ → List ℕ
delays_after (accepted (t, excess_codes) used) old = flat_delays (delays_from t.1.0)
delays_after (refused x) old = old

abbrev pub coefs_after : List ℕ → Outcome (Tables × ℕ) → List Float → List Float
coefs_after predsi (accepted (t, excess_codes) used) old = flat_coefs (coefs_from predsi t.1.0)
coefs_after predsi (refused x) old = old

abbrev pub scalefactors_after : Outcome (Tables × ℕ) → List ℕ → List ℕ
scalefactors_after (accepted (t, excess_codes) used) old = entries 288 t.1.1.1.0
scalefactors_after (refused x) old = old

abbrev pub excesses_after : Outcome (Tables × ℕ) → List ℕ → List ℕ
excesses_after (accepted (t, excess_codes) used) old = entries 1152 t.1.1.1.1
excesses_after (refused x) old = old

-- what the struct of the buffers lends
abbrev pub buffers_now : Lending.Buffers → Buffers
buffers_now w = buffers_from w.scfsi.now w.delays.now w.coefs.now w.scalefactors.now w.excesses.now w.raw.now w.lfe.now

-- it lends the same seven slices as before, whatever is in them
abbrev pub SameSlices : Lending.Buffers → Lending.Buffers → Type 0
SameSlices w w' =
    (w'.scfsi.ghost_name ≡ w.scfsi.ghost_name)
    × ((w'.delays.ghost_name ≡ w.delays.ghost_name)
    × ((w'.coefs.ghost_name ≡ w.coefs.ghost_name)
    × ((w'.scalefactors.ghost_name ≡ w.scalefactors.ghost_name)
    × ((w'.excesses.ghost_name ≡ w.excesses.ghost_name) × ((w'.raw.ghost_name ≡ w.raw.ghost_name) × (w'.lfe.ghost_name ≡ w.lfe.ghost_name))))))

-- the five tables of an answer; raw and LFE values stay
abbrev pub tables_after : List ℕ → Outcome (Tables × ℕ) → Buffers → Buffers
tables_after predsi a w =
    buffers_from (scfsi_after a w.scfsi) (delays_after a w.delays) (coefs_after predsi a w.coefs) (scalefactors_after a w.scalefactors) (excesses_after a w.excesses) w.raw w.lfe

abbrev pub packed_tables : Outcome (Tables × ℕ) → ℕ
packed_tables (accepted (t, excess_codes) used) = packed_used used t.1.1.0 excess_codes
packed_tables (refused x) = packed_refusal x
