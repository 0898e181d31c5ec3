-- `mc_codes::granules::codewords_of` meets its contract.
use Rattle.std.proofs.Common.{rules, ℕ, sym, ◌∙◌, get_or, ◌≡◌, ◌<◌}
use Rattle.std.proofs.lemmas.List.{ext_get_or}
use Rattle.fill.specs.Tab.{tab}
use Rattle.fill.proofs.TabLaws.{length-tab, get_or-tab}
use Rattle.mc_codes.specs.Parts.{codeword_of, codewords_of}
use Rattle.mc_codes.proofs.granules.codewords_of.Goals as goal

pub returns : goal.returns
unfolding codewords_of
returns c =
    let f = λ (i : ℕ). codeword_of (get_or c.args.own.now i 0) in
    let m = c.map.ensures.items in
    ext_get_or (codeword_of 0) c.map.result (tab f 96) (m.long ∙ sym (length-tab f 96))
    (λ j h.
    let b : j < 96 = rw (← m.long) h in
    let (p, q, called) = m.at j 0 (codeword_of 0) b in
    let e : get_or c.map.result j (codeword_of 0) ≡ f j = search rules in
    e ∙ sym (get_or-tab (codeword_of 0) f 96 j b))
