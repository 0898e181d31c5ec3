-- The names that are printed of channels, as bytes. Definitions only.
use Rattle.std.specs.Prelude.{cond, List, ℕ, eqb, codes}
use Rattle.mc_config.specs.Config.{left, right, centre, left_surround, right_surround, mono_surround, second_left}

-- the name of an output channel
abbrev pub name_of : ℕ → List ℕ
name_of channel =
    cond (eqb channel left) (codes "L")
    (cond (eqb channel right) (codes "R")
    (cond (eqb channel centre) (codes "C")
    (cond (eqb channel left_surround) (codes "LS")
    (cond (eqb channel right_surround) (codes "RS")
    (cond (eqb channel mono_surround) (codes "S")
    (cond (eqb channel second_left) (codes "L2") (codes "R2")))))))
