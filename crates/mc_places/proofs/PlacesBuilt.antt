-- What the tables by group are made of, and the entries of the tables by place.
use Rattle.std.specs.Prelude.{◌≡◌, Bool, List, ℕ, ◌+◌, ◌*◌, ◌/◌, ◌%◌, ◌<◌, get_or}
use Rattle.std.proofs.Common.{arith}
use mir.Syntax.{w8}
use mir.Val.{Fits}
use Rattle.mc_config.specs.Config.{main_of, pair_of}
use Rattle.mc_config.specs.Groups.{sbgr_of}
use Rattle.mc_config.specs.declared.McConfig.{McConfig}
use Rattle.mc_roles.specs.Roles.{base_of}
use Rattle.mc_roles.proofs.RolesLaws.{base-below}
use Rattle.mc_places.specs.PlacesBy.{carried_by, group_sources, group_bases, group_at, steps_by, own_by}
use Rattle.mc_places.proofs.PlacesLaws.{sources-below, bases-below}

pub base-fits : (pair tc m : ℕ) (lr : Bool) (base_channels r : ℕ) → r ≡ base_of pair tc m lr base_channels → Fits w8 r
base-fits pair tc m lr base_channels r e = let h = base-below pair tc m lr base_channels in record { fits = omega arith }

-- ---- the tables, at place i in group g

module _ (i g : ℕ) (e : g ≡ sbgr_of (i / 3)) where
  pub group-place : (t : List ℕ) → get_or t (3 * g + i % 3) 0 ≡ group_at t (i % 3) (i / 3)
  group-place t = rw e

  module _ (limits : List ℕ) (there : Bool) (et : there ≡ carried_by limits (i % 3) (i / 3)) (sources bases steps base_steps : List ℕ) (r : ℕ) where
    pub steps-place : r ≡ steps_by steps base_steps there (get_or sources (3 * g + i % 3) 0) (get_or bases (3 * g + i % 3) 0) (i % 3) (i / 3)
        → r ≡ steps_by steps base_steps (carried_by limits (i % 3) (i / 3)) (group_at sources (i % 3) (i / 3)) (group_at bases (i % 3) (i / 3)) (i % 3) (i / 3)
    steps-place h = rw (← et, ← e) h

    pub own-place : r ≡ own_by steps there (get_or sources (3 * g + i % 3) 0) (i % 3) (i / 3)
        → r ≡ own_by steps (carried_by limits (i % 3) (i / 3)) (group_at sources (i % 3) (i / 3)) (i % 3) (i / 3)
    own-place h = rw (← et, ← e) h

-- ---- what the tables by group are made of, as the calls answer it

pub main-pair : (c : McConfig) (main p : ℕ) → main ≡ main_of (pair_of c) → p ≡ pair_of c → main ≡ main_of p
main-pair c main p e ep = rw ep e

pub sources-small : (p : ℕ) (cross t : List ℕ) → t ≡ group_sources p cross → (k : ℕ) → k < 36 → get_or t k 0 < 5
sources-small p cross t e k h = rw e (sources-below p cross k h)

pub bases-small : (p : ℕ) (tc : List ℕ) (lr : Bool) (base_channels : ℕ) (t : List ℕ) → t ≡ group_bases p tc lr base_channels → (k : ℕ) → k < 36 → get_or t k 0 < 2
bases-small p tc lr base_channels t e k h = rw e (bases-below p tc lr base_channels k h)
