-- Laws of a frame's opening, one step each.
use Rattle.std.specs.Prelude.{◌≡◌, ℕ, zero, suc, ◌+◌, ◌*◌, ◌%◌, ◌<◌, ◌≤◌, List, [], ◌∷◌, length, take, replicate, ◌≢◌, get_or, slice_index, slice_index_or, Float}
use Rattle.std.proofs.Math.Path.{refl}
use Rattle.std.proofs.Common.{sym, ap, ◌∙◌, arith, eq-eqb, ne_eqb, length-take, Fits}
use Rattle.std.specs.Int.{w8}
use Rattle.std.proofs.Math.ListN.{get_or-eq_default}
use Rattle.fill.proofs.InOrder.{Filling, ends-all}
use Rattle.fill.proofs.TabLaws.{tab-same}
use Rattle.encoding.specs.Encoding.{number_at}
use Rattle.encoding.proofs.EncodingLaws.{one-byte, four-fits}
use Rattle.mc_base.specs.Base.{base_from, Base}
use Rattle.mc_state.specs.declared.Framed.{Framed}
use Rattle.mc_state.specs.declared.McDecodeState.{McDecodeState}
use Rattle.mc_state.specs.Answer.{lent_of, after_of}
use Rattle.mc_state.specs.Frame.{Buffers, frame_of}
use Rattle.replay_list.specs.Opening.{second_lent, step_counts, steps_of, steps_from, lent_values, start_of, lent_with, lent_long, lent_in}
use Rattle.replay_list.specs.Values.{values_after, with_wild}

-- a number of four bytes needs no remainder
pub number32-plain : (bytes : List ℕ) (at : ℕ) → ((i : ℕ) → Fits w8 (get_or bytes i 0)) → number_at bytes at 4 % 4294967296 ≡ number_at bytes at 4
number32-plain bytes at small = omega (arith, four-fits bytes at small)

-- within a list the value past the end is no matter
get_or-inside : (xs : List ℕ) (k a b : ℕ) → k < length xs → slice_index_or xs k a ≡ slice_index_or xs k b
get_or-inside [] k a b l = absurd (omega arith)
get_or-inside (x ∷ xs) zero a b l = refl
get_or-inside (x ∷ xs) (suc k) a b l = get_or-inside xs k a b (omega arith)

pub steps-known : (k : ℕ) → k < 18 → slice_index step_counts k ≡ steps_of k
unfolding steps_of
steps-known k l = get_or-inside step_counts k 0 4 l

pub steps-unknown : (k : ℕ) → 18 ≤ k → 4 ≡ steps_of k
unfolding steps_of
steps-unknown k l = sym (get_or-eq_default step_counts 4 l)

module _ (opening : List ℕ) where
  pub second-all : (b n : ℕ) → b ≡ slice_index opening 17 → b ≡ 1 → n ≡ second_lent opening n
  second-all b n e q = simp (eq-eqb (number_at opening 17 1) 1 (one-byte opening 17 ∙ (sym e ∙ q)))

  pub second_none : (b n : ℕ) → b ≡ slice_index opening 17 → (b ≢ 1) → 0 ≡ second_lent opening n
  second_none b n e q = simp (ne_eqb (number_at opening 17 1) 1 (λ h. q (e ∙ (sym (one-byte opening 17) ∙ h))))

  pub steps_all : (first k : ℕ) (d dst : List ℕ) → Filling (λ j. steps_of (slice_index opening (first + j))) (length d) d dst k → length d ≤ k → dst ≡ steps_from opening first (length d)
  unfolding steps_from
  steps_all first k d dst p l = ends-all p l refl ∙ tab-same (length d) (λ j m. ap steps_of (sym (one-byte opening (first + j))))

  -- a frame that starts no new state
  pub start-goes-on : (b : ℕ) (state : McDecodeState) → b ≡ slice_index opening 19 → (b ≢ 1) → state ≡ start_of opening state
  unfolding start_of
  start-goes-on b state e q = simp (ne_eqb (number_at opening 19 1) 1 (λ h. q (e ∙ (sym (one-byte opening 19) ∙ h))))

  pub start-anew : (b second layout tally : ℕ) (history : List Float) (state : McDecodeState)
      → b ≡ slice_index opening 19 → b ≡ 1 → second ≡ second_lent opening 1152 → history ≡ lent_values opening (2304 + 2 * second) 4608 576 → layout ≡ slice_index opening 20 → tally ≡ number_at opening 24 4
      → record { pred_hist = history; layout_len = layout; layout = 0; accepted = replicate 8 tally } ≡ start_of opening state
  unfolding start_of
  start-anew b second layout accepted history state e q es eh el ea =
      simp (eq-eqb (number_at opening 19 1) 1 (one-byte opening 19 ∙ (sym e ∙ q))) (rw (eh, el, ea, es, one-byte opening 20))

  pub values-lent : (before first n seed kind place : ℕ) (drawn out : List Float)
      → seed ≡ number_at opening 32 8 → kind ≡ slice_index opening 21 → place ≡ number_at opening 22 2 → drawn ≡ values_after seed before n → out ≡ with_wild first kind place drawn
      → out ≡ lent_values opening before first n
  unfolding lent_values
  values-lent before first n seed kind place drawn out es ek ep ed eo = eo ∙ (rw (ed, es, ek, ep, one-byte opening 21))

-- the length of a part
pub taken : {A : Type 0} (s m x : ℕ) (xs : List A) → s ≤ m → m ≡ length xs → s ≡ x → length (take s xs) ≡ x
taken s m x xs h e q = simp length-take (omega arith)

module _ (opening head payload : List ℕ) (r : Framed) (before after : Buffers) (state : McDecodeState) where
  -- the frame call with the numbers that were read
  pub called : (head_bits payload_bits reading desk rate channels lfe : ℕ) (start : McDecodeState) (base : Base) (base_steps steps : List ℕ)
      → start ≡ start_of opening state → head_bits ≡ number_at opening 4 4 → payload_bits ≡ number_at opening 8 4 → reading ≡ number_at opening 88 4 → desk ≡ number_at opening 92 4 → rate ≡ number_at opening 12 4 → channels ≡ slice_index opening 16 → lfe ≡ slice_index opening 18
      → after_of r after ≡ frame_of (lent_of head head_bits payload payload_bits reading desk rate channels base base_steps lfe steps) before start
      → after_of r after ≡ frame_of (lent_with opening head payload base base_steps steps) before (start_of opening state)
  called head_bits payload_bits reading desk rate channels lfe start base base_steps steps e a b g h c d f q = q ∙ (rw (e, a, b, g, h, c, d, f, one-byte opening 16, one-byte opening 18))

  -- with the slices that were rebuilt
  pub rebuilt : (n1 n2 n3 n4 n5 n6 : ℕ) (raw_left raw_right scaled_left scaled_right : List Float) (base_steps steps : List ℕ)
      → raw_left ≡ lent_values opening 0 0 n1 → raw_right ≡ lent_values opening 1152 1152 n2
      → scaled_left ≡ lent_values opening (1152 + second_lent opening 1152) 2304 n3 → scaled_right ≡ lent_values opening (2304 + second_lent opening 1152) 3456 n4
      → base_steps ≡ steps_from opening 96 n5 → steps ≡ steps_from opening 160 n6
      → after_of r after ≡ frame_of (lent_with opening head payload (base_from raw_left raw_right scaled_left scaled_right) base_steps steps) before (start_of opening state)
      → after_of r after ≡ frame_of (lent_long opening head payload n1 n2 n3 n4 n5 n6) before (start_of opening state)
  rebuilt n1 n2 n3 n4 n5 n6 raw_left raw_right scaled_left scaled_right base_steps steps a b c d e f q = q ∙ (rw (a, b, c, d, e, f))

  -- with the lengths that the opening says
  pub lent-whole : (n1 n2 n3 n4 n5 n6 : ℕ) → n1 ≡ 1152 → n2 ≡ second_lent opening 1152 → n3 ≡ 1152 → n4 ≡ second_lent opening 1152 → n5 ≡ 32 + second_lent opening 32 → n6 ≡ 96
      → after_of r after ≡ frame_of (lent_long opening head payload n1 n2 n3 n4 n5 n6) before (start_of opening state)
      → after_of r after ≡ frame_of (lent_in opening head payload) before (start_of opening state)
  lent-whole n1 n2 n3 n4 n5 n6 a b c d e f q = q ∙ (rw (a, b, c, d, e, f))
