-- The tables of places as the code builds them are those of the definition.
use Rattle.std.specs.Prelude.{◌≡◌, Bool, true, false, not, ◌&&◌, cond, List, ℕ, ◌+◌, ◌*◌, ◌/◌, ◌%◌, ◌≤◌, ◌<◌, eqb, ltb, leb, get_or}
use Rattle.std.proofs.Math.Path.{refl}
use Rattle.std.proofs.Common.{sym, ◌∙◌, arith, lit≤, lit<, lt-ltb, le-ltb, leb-true, leb-false}
use Rattle.std.proofs.Math.Bool.{and-true, and-false}
use Rattle.fill.specs.Tab.{tab}
use Rattle.fill.proofs.TabLaws.{get_or-tab, tab-same}
use Rattle.mc_config.specs.Config.{main_of, pair_of, config_of}
use Rattle.mc_config.proofs.ConfigLaws.{main-most}
use Rattle.mc_config.proofs.CaseLaws.{cond-all}
use Rattle.mc_config.specs.Reading.{phantom_of}
use Rattle.mc_crosstalk.proofs.CrosstalkLaws.{source-below}
use Rattle.mc_config.specs.Groups.{sbgr_of}
use Rattle.mc_config.proofs.GroupsLaws.{sbgr-below}
use Rattle.mc_roles.specs.Roles.{base_of}
use Rattle.mc_roles.proofs.RolesLaws.{base-below}
use Rattle.mc_config.specs.declared.McConfig.{McConfig}
use Rattle.mc_fields.specs.Head.{mode_at, second_at}
use Rattle.mc_payload.specs.declared.McSettings.{McSettings}
use Rattle.mc_places.specs.declared.places.Places.{Places}
use Rattle.mc_payload.specs.Places.{config, pair, msblimit, phantom_limit, carried, source_at, transmitted, base_at, steps_at, own_at, place, steps_of, own_of, sources_of, bases_of}
use Rattle.mc_places.specs.PlacesBy.{places_of, limit_by, limits_by, carried_by, source_by, group_sources, group_bases, group_at, steps_by, own_by, places_by}

-- ---- the limits by channel

limit-least : (rate : ℕ) → phantom_limit ≤ msblimit rate
limit-least rate = cond-all (λ n. phantom_limit ≤ n) (eqb rate 48000) (lit≤ tt) (lit≤ tt)

-- below a channel's limit, for a subband limit that is not below the phantom centre's
module _ (limit sb : ℕ) (h : phantom_limit ≤ limit) where
  below-limit : (channel phantom first : Bool)
      → ltb sb (cond channel (cond (phantom && first) phantom_limit limit) 0) ≡ (channel && (ltb sb limit && not (phantom && (first && leb phantom_limit sb))))
  below-limit false phantom first = le-ltb sb 0 (omega arith)
  below-limit true false first = sym (and-true (ltb sb limit))
  below-limit true true false = sym (and-true (ltb sb limit))
  below-limit true true true = go (leb phantom_limit sb) refl
    where
      go : (t : Bool) → leb phantom_limit sb ≡ t → ltb sb phantom_limit ≡ (ltb sb limit && not (leb phantom_limit sb))
      go true e = rw (e, le-ltb sb phantom_limit (leb-true phantom_limit sb e)) (sym (and-false (ltb sb limit)))
      go false e = let l = leb-false phantom_limit sb e in rw (e, lt-ltb sb phantom_limit l, lt-ltb sb limit (omega arith))

-- ---- the tables by group

pub sources-below : (p : ℕ) (cross : List ℕ) (k : ℕ) → k < 36 → get_or (group_sources p cross) k 0 < 5
unfolding group_sources source_by
sources-below p cross k h =
    rw (get_or-tab 0 (λ k. source_by p (mode_at cross (k / 3)) (second_at cross (k / 3)) (k % 3)) 36 k h)
    (cond-all (λ n. n < 5) (ltb (k % 3) (main_of p)) (source-below p (mode_at cross (k / 3)) (k % 3))
    (cond-all (λ n. n < 5) (eqb (k % 3) (main_of p + 1) && eqb (second_at cross (k / 3)) 1) (omega (arith, main-most p)) (lit< tt)))

pub bases-below : (p : ℕ) (tc : List ℕ) (lr : Bool) (base_channels k : ℕ) → k < 36 → get_or (group_bases p tc lr base_channels) k 0 < 2
unfolding group_bases
bases-below p tc lr base_channels k h =
    rw (get_or-tab 0 (λ k. base_of p (get_or tc (k / 3) 0) (k % 3) lr base_channels) 36 k h) (base-below p (get_or tc (k / 3) 0) (k % 3) lr base_channels)

-- an entry by group and channel
group-entry : (f : ℕ → ℕ → ℕ) (m sb : ℕ) → m < 3 → group_at (tab (λ k. f (k / 3) (k % 3)) 36) m sb ≡ f (sbgr_of sb) m
group-entry f m sb h =
    let b = sbgr-below sb in
    let d : (3 * sbgr_of sb + m) / 3 ≡ sbgr_of sb = omega arith in
    let r : (3 * sbgr_of sb + m) % 3 ≡ m = omega arith in
    get_or-tab 0 (λ k. f (k / 3) (k % 3)) 36 (3 * sbgr_of sb + m) (omega arith) ∙ rw (d, r)

module _ (s : McSettings) (m sb : ℕ) (h : m < 3) where
  source-entry : group_at (group_sources (pair s) s.status.dyn_cross) m sb ≡ source_at s m sb
  unfolding group_sources source_by source_at
  source-entry = group-entry (λ g m. source_by (pair s) (mode_at s.status.dyn_cross g) (second_at s.status.dyn_cross g) m) m sb h

  base-entry : group_at (group_bases (pair s) s.status.tc_allocation s.status.dyn_cross_lr s.base_channels) m sb ≡ base_at s m sb
  unfolding group_bases base_at
  base-entry = group-entry (λ g m. base_of (pair s) (get_or s.status.tc_allocation g 0) m s.status.dyn_cross_lr s.base_channels) m sb h

  carried-entry : carried_by (limits_by (config s).nmch (phantom_of s.reading (config s)) (msblimit s.rate)) m sb ≡ carried s m sb
  unfolding carried_by limits_by limit_by carried
  carried-entry =
      let phantom = phantom_of s.reading (config s) in
      rw (get_or-tab 0 (limit_by (config s).nmch phantom (msblimit s.rate)) 3 m h)
      (below-limit (msblimit s.rate) sb (limit-least s.rate) (ltb m (config s).nmch) phantom (eqb m 0))

  steps-entry : steps_by s.nb_steps s.base_nb_steps (carried s m sb) (source_at s m sb) (base_at s m sb) m sb ≡ steps_at s m sb
  unfolding steps_by steps_at
  steps-entry = refl

  own-entry : own_by s.nb_steps (carried s m sb) (source_at s m sb) m sb ≡ own_at s m sb
  unfolding own_by own_at transmitted
  own-entry = refl

-- ---- the tables by place

module _ (s : McSettings) where
  abbrev sources : List ℕ
  sources = group_sources (pair s) s.status.dyn_cross

  abbrev bases : List ℕ
  bases = group_bases (pair s) s.status.tc_allocation s.status.dyn_cross_lr s.base_channels

  abbrev limits : List ℕ
  limits = limits_by (config s).nmch (phantom_of s.reading (config s)) (msblimit s.rate)

  abbrev built_steps : ℕ → ℕ → ℕ
  built_steps m sb = steps_by s.nb_steps s.base_nb_steps (carried_by limits m sb) (group_at sources m sb) (group_at bases m sb) m sb

  abbrev built_own : ℕ → ℕ → ℕ
  built_own m sb = own_by s.nb_steps (carried_by limits m sb) (group_at sources m sb) m sb

  built-steps : (m sb : ℕ) → m < 3 → built_steps m sb ≡ steps_at s m sb
  built-steps m sb h = rw (carried-entry s m sb h, source-entry s m sb h, base-entry s m sb h) (steps-entry s m sb h)

  built-own : (m sb : ℕ) → m < 3 → built_own m sb ≡ own_at s m sb
  built-own m sb h = rw (carried-entry s m sb h, source-entry s m sb h) (own-entry s m sb h)

  by-place : (f g : ℕ → ℕ → ℕ) → ((m sb : ℕ) → m < 3 → f m sb ≡ g m sb) → tab (place f) 96 ≡ tab (place g) 96
  by-place f g e = tab-same 96 (λ i h. e (i % 3) (i / 3) (omega arith))

  places-built : places_by limits sources bases s.nb_steps s.base_nb_steps ≡ places_of s
  unfolding places_by places_of steps_of own_of sources_of bases_of
  places-built =
      cc (
        by-place built_steps (steps_at s) built-steps,
        by-place built_own (own_at s) built-own,
        by-place (group_at sources) (source_at s) (source-entry s),
        by-place (group_at bases) (base_at s) (base-entry s),
      )

  pub places-whole : (c : McConfig) (phantom : Bool) (p limit : ℕ) (below from copied : List ℕ) (r : Places)
      → c ≡ config_of s.header s.base_channels → phantom ≡ phantom_of s.reading c → p ≡ pair_of c
      → from ≡ group_sources p s.status.dyn_cross
      → copied ≡ group_bases p s.status.tc_allocation s.status.dyn_cross_lr s.base_channels
      → limit ≡ msblimit s.rate → below ≡ limits_by c.nmch phantom limit
      → r ≡ places_by below from copied s.nb_steps s.base_nb_steps
      → r ≡ places_of s
  places-whole c phantom p limit below from copied r ec eh ep es eb el ew er = rw (er, ew, el, eb, es, ep, eh, ec) places-built
