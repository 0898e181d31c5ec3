-- `leaves::mc_leaf_requantize_code` meets its contract: a class that is found has two to sixteen bits.
use native.Mathlib.Omega.{arith}
use Rattle.bitalloc.proofs.Rules.{found-rules}
use Rattle.leaves.proofs.mc_leaf_requantize_code.Goals as goal

pub has_bits-requires : goal.has_bits-requires
has_bits-requires c = (found-rules _ _ _ c.class_of_quantization.ensures c.in-Some.is).sample-high

pub requantize_code-requires-clause-width : goal.requantize_code-requires-clause-width
requantize_code-requires-clause-width c =
    let rules = found-rules _ _ _ c.class_of_quantization.ensures c.in-Some.is in
    let low = rules.sample-low in
    (omega arith, rules.sample-high)
