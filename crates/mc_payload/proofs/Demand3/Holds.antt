-- The payload is read in one way only.
use Rattle.std.specs.Prelude.{◌≡◌, refl, true, List, ℕ, ◌*◌, ◌≤◌, ◌<◌, leb, length, take}
use Rattle.std.proofs.Common.{sym, subst, ◌∙◌, arith, length-take, leb-true, le-leb}
use Rattle.bits.proofs.SyntaxLaws.{within}
use Rattle.bits.proofs.Yields.{accepted-yields}
use Rattle.bits.proofs.Theorems.{UNIQUE}
use Rattle.bits.proofs.Cut.{CUT-bits, CUT-bytes}
use Rattle.bitalloc.specs.Classes.{grouped}
use Rattle.requant.proofs.Excess.{excess-none}
use Rattle.mc_fields.specs.Lent.{string_fits}
use Rattle.mc_payload.specs.declared.McSettings.{McSettings}
use Rattle.mc_payload.specs.Places.{own_at}
use Rattle.mc_payload.specs.Payload.{Codes}
use Rattle.mc_payload.specs.Unpack.{settings_of, payload_of}
use Rattle.mc_payload.specs.Record.{excess_at}
use Rattle.mc_payload.specs.Demand3.{GroupsBelow, SameRecord, SameWhole, UniqueWhole, UniqueReading, ShortWhenCut}
use Rattle.mc_payload.proofs.Demand3.Fields.{codes-recover}
use Rattle.mc_payload.proofs.Demand3.Widths.{codes-fit}
use Rattle.mc_payload.proofs.Demand3.Accepted.{both_true, unpack-accepts, unpack-runs, lfe-low}
use Rattle.mc_payload.proofs.Demand3.Decided.{same_codes}

-- ---- records and used bits

-- a record is equal to itself
same-whole : (s : McSettings) (c : Codes) → SameWhole s c c
same-whole s c = record { entries = same-record; excess = λ gr m sb _ _ _ _. refl }
  where
    same-record : SameRecord s c c
    same-record = record {
      scfsi = λ m sb _ _ _. refl;
      delays = λ g px _ _ _. refl;
      coefficients = λ g px k _ _ _ _. refl;
      lf_scalefactor = λ _. refl;
      scalefactors = λ m sb part _ _ _ _. refl;
      raw = λ m slot sb _ _ _ _. refl;
      lfe = λ gr _ _. refl;
    }

pub unique-whole : UniqueWhole
unfolding settings_of
unique-whole l b b' n n' c c' u u' e e' =
    let s = settings_of l in
    let fit = accepted-yields (codes-fit s) in
    let a = unpack-accepts l b n c u e in
    let a' = unpack-accepts l b' n' c' u' e' in
    let w = UNIQUE (payload_of s) b b' n n' c u a.ran (codes-recover s) c' u' a'.ran in (
      λ r. w.0 (same_codes s c c' a.allocated (lfe-low l a.lent) (fit b n 0 c u a.ran) (fit b' n' 0 c' u' a'.ran) r),
      λ h. subst (SameWhole s c) (w.1 h) (same-whole s c),
    )

-- group codes below the cube of their step counts have no excess
no-excess : (s : McSettings) (c : Codes) → GroupsBelow s c → (gr m sb : ℕ) → gr < 12 → m < 3 → sb < 32 → grouped (own_at s m sb) ≡ true → excess_at s c gr m sb ≡ 0
unfolding excess_at
no-excess s c g gr m sb hg hm hs t = rw t (excess-none _ _ (g gr m sb hg hm hs t))

pub demand3-unique : UniqueReading
demand3-unique l b b' n n' c c' u u' e e' g g' =
    let s = settings_of l in
    let w = unique-whole l b b' n n' c c' u u' e e' in (
      λ r. w.0 (record { entries = r; excess = λ gr m sb hg hm hs t. no-excess s c g gr m sb hg hm hs t ∙ sym (no-excess s c' g' gr m sb hg hm hs t) }),
      λ h. (w.1 h).entries,
    )

-- ---- cuts

pub string-fits : (b : List ℕ) (n : ℕ) → length b ≤ 8192 → n ≤ 8 * length b → string_fits b n ≡ true
string-fits b n h w = rw (le-leb (length b) 8192 h, le-leb n (8 * length b) w)

pub demand3-cut : ShortWhenCut
demand3-cut l b n c u left e h =
    let a = unpack-accepts l b n c u e in
    let size = both_true (leb (length b) 8192) _ a.string in
    let bytes : length b ≤ 8192 = leb-true _ _ size.0 in
    let bits : n ≤ 8 * length b = leb-true _ _ size.1 in
    let used : u ≤ n = within (payload_of (settings_of l)) b n 0 c u (omega arith) a.ran in (
      unpack-runs l b left (string-fits b left bytes (omega arith)) a.lent a.allocated ∙ CUT-bits _ b n left c u a.ran h,
      λ k w s. let z : length (take k b) ≡ k = omega (arith, length-take k b) in
          unpack-runs l (take k b) left (string-fits (take k b) left (omega arith) (omega arith)) a.lent a.allocated ∙ CUT-bytes _ b n left c u a.ran h k w,
    )
