-- The readings of the transfer guide, 1 and 2. Reading 1 is the standard's text as the Rust takes it; all that reading 2 says otherwise stands here.
use Rattle.std.specs.Prelude.{Bool, true, false, ◌&&◌, ◌||◌, cond, ℕ, eqb}
use Rattle.mc_config.specs.declared.McConfig.{McConfig}

-- the readings that there are; else wrong loan, refusal 6
abbrev pub reading_fits : ℕ → Bool
reading_fits reading = eqb reading 1 || eqb reading 2

-- by reading: 1, and 2
abbrev pub by_reading {ℓ} : {X : Type ℓ} → ℕ → X → X → X
by_reading reading one two = cond (eqb reading 2) two one

-- a centre code that must stop the frame, refusal 13: none, and code 2
abbrev pub centre_stops : ℕ → ℕ → Bool
centre_stops reading centre = by_reading reading false (eqb centre 2)

-- whether a phantom centre limits the first channel of the extension: always, and for a front of three
abbrev pub phantom_of : ℕ → McConfig → Bool
phantom_of reading c = c.phantom_centre && by_reading reading true (eqb c.front 3)
