-- `mc_places::places::listed_source` meets its contract.
use Rattle.std.specs.Prelude.{◌≡◌, refl, Bool, true, false, cond, List, [], ℕ, get_or, Option, Some, None, option_map}
use Rattle.std.specs.Option.{unwrap_or}
use Rattle.std.proofs.Common.{rules, sym, ap, ◌∙◌, Bor}
use Rattle.mc_crosstalk.specs.Crosstalk.{T, listed, sources_of}
use Rattle.mc_crosstalk.proofs.CrosstalkLaws.{sources-unlisted}
use Rattle.mc_places.proofs.places.listed_source.Goals as goal

-- no row has no sources
row-sources : (pair mode : ℕ) (r : Option (Bor (List ℕ))) (z : Bor (List ℕ)) → z.now ≡ []
    → option_map (λ row. row.now) r ≡ cond (listed pair mode) (Some (sources_of pair mode)) None → (unwrap_or r z).now ≡ sources_of pair mode
row-sources pair mode (Some row) z e h = go (listed pair mode) h
  where
    go : (t : Bool) → Some row.now ≡ cond t (Some (sources_of pair mode)) None → row.now ≡ sources_of pair mode
    go true q = cc
    go false q = let s : Some row.now ≡ None = q in cc
row-sources pair mode None z e h = go (listed pair mode) refl h
  where
    go : (t : Bool) → listed pair mode ≡ t → None ≡ cond t (Some (sources_of pair mode)) None → z.now ≡ sources_of pair mode
    go true l q = let s : None ≡ Some (sources_of pair mode) = q in cc
    go false l q = e ∙ sym (sources-unlisted pair mode l)

pub returns : goal.returns
returns c =
    let e = row-sources c.args.pair c.args.mode _ _ refl c.dyn_cross_sources.ensures in
    let f : c.unwrap_or.result ≡ get_or c.unwrap_or-row.result.now c.args.m T = search rules in
    f ∙ ap (λ (t : List ℕ). get_or t c.args.m T) (ap (λ (b : Bor (List ℕ)). b.now) c.unwrap_or-row.ensures ∙ e)
