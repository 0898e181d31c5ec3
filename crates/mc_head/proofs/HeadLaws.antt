-- What a reader that stands at the first bit of a lent head finds, as the definition's outcome.
use Rattle.std.specs.Prelude.{◌≡◌, Bool, true, false, ℕ, ◌≤◌, Result}
use Rattle.std.specs.Result.{IsErrAnd}
use Rattle.std.proofs.lemmas.Result.{err_from_is_err_and}
use Rattle.std.proofs.Common.{sym, ◌∙◌, arith}
use Rattle.bits.specs.Syntax.{Syntax, Refusal, plain, done, refuse, accepted, refused, run}
use Rattle.bit_reader.specs.Reads.{Goes}
use Rattle.bit_reader.specs.declared.BitReader.{BitReader}
use Rattle.bit_reader.specs.declared.BitString.{BitString}
use Rattle.bit_reader.proofs.ReadLaws.{stays, both-on, both-stops-late, ended-value, ended-refusal}
use Rattle.mc_config.specs.Config.{config_of}
use Rattle.mc_config.specs.Reading.{centre_stops}
use Rattle.mc_config.specs.declared.McConfig.{McConfig}
use Rattle.mc_config.specs.declared.McHeader.{McHeader}
use Rattle.mc_config.proofs.ConfigLaws.{tc-bits-config, cross-bits-config}
use Rattle.mc_error.specs.Error.{refusal_of}
use Rattle.mc_error.specs.declared.McError.{McError}
use Rattle.mc_fields.specs.Head.{mc_header, mc_composite_status_info, after_header, head}
use Rattle.mc_fields.specs.Lent.{head_fits, head_of}
use Rattle.mc_fields.specs.declared.McStatus.{McStatus}
use Rattle.mc_fields.proofs.LentLaws.{lent-fits, lent-wrong}
use Rattle.mc_head.specs.Answer.{outcome_of}
use Rattle.mc_head.specs.declared.McHead.{McHead}

-- the widths of a configuration are those of a byte at the most
pub widths-fit : (h : McHeader) (base_channels : ℕ) (c : McConfig) → c ≡ config_of h base_channels → (c.tc_allocation_bits ≤ 8) × (c.dyn_cross_bits ≤ 8)
widths-fit h base_channels c e = rw e (omega (arith, tc-bits-config h base_channels), omega (arith, cross-bits-config h base_channels))

-- the status by the configuration that was made
pub configured : {r r' : BitReader} {m : Syntax McStatus} (h : McHeader) (base_channels : ℕ) {c : McConfig} → c ≡ config_of h base_channels
    → Goes r (mc_composite_status_info c) r' m → Goes r (mc_composite_status_info (config_of h base_channels)) r' m
configured h base_channels e g = rw e at g

-- ---- after the header: the test of its centre code, and what follows

module _ (reading base_channels : ℕ) {r r' : BitReader} {h : McHeader} (g : Goes r mc_header r' (done h)) where
  pub centre-refused : centre_stops reading h.centre ≡ true → Goes r (head reading base_channels) r' (refuse (plain 13))
  unfolding head
  centre-refused e = both-stops-late _ g (rw e stays)

  pub rest-refused : {r'' : BitReader} {x : Refusal} → centre_stops reading h.centre ≡ false → Goes r' (after_header h base_channels) r'' (refuse x)
      → Goes r (head reading base_channels) r'' (refuse x)
  unfolding head
  rest-refused e k = both-stops-late _ g (rw e k)

  pub rest-read : {r'' : BitReader} {v : ℕ × McStatus} → centre_stops reading h.centre ≡ false → Goes r' (after_header h base_channels) r'' (done v)
      → Goes r (head reading base_channels) r'' (done (h, v))
  unfolding head
  rest-read e k = both-on _ g (rw e k)

-- ---- the outcome

module _ (reading : ℕ) (string : BitString) (base_channels : ℕ) where
  pub wrong-loan : (f : Bool) → f ≡ head_fits reading string.bytes.now string.bits base_channels → f ≡ false → refused (plain 6) ≡ head_of reading string.bytes.now string.bits base_channels
  wrong-loan f e t = sym (lent-wrong reading string.bytes.now string.bits base_channels (sym e ∙ t))

  module _ (f : Bool) (e : f ≡ head_fits reading string.bytes.now string.bits base_channels) (t : f ≡ true) (r r' : BitReader) (n : (r.string ≡ string) × (r.at ≡ 0)) where
    lent : head_of reading string.bytes.now string.bits base_channels ≡ run (head reading base_channels) r.string.bytes.now r.string.bits r.at
    lent = lent-fits reading string.bytes.now string.bits base_channels (sym e ∙ t) ∙ rw (n.0, n.1)

    pub head-read : (values : McHeader × (ℕ × McStatus)) → Goes r (head reading base_channels) r' (done values) → accepted values r'.at ≡ head_of reading string.bytes.now string.bits base_channels
    head-read values g = sym (lent ∙ ended-value g)

    pub head-stops : (x : Refusal) → Goes r (head reading base_channels) r' (refuse x) → refused x ≡ head_of reading string.bytes.now string.bits base_channels
    head-stops x g = sym (lent ∙ ended-refusal g)

    -- what `?` returns where a part was refused
    pub head-returned : (x : Result McHead McError) (y : McError) → IsErrAnd x (λ z. z ≡ y) → Goes r (head reading base_channels) r' (refuse (refusal_of y))
        → outcome_of x ≡ head_of reading string.bytes.now string.bits base_channels
    head-returned x y h g = let p = err_from_is_err_and x h in rw (p.1, p.2) (head-stops (refusal_of y) g)
