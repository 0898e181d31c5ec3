-- Settings that are alike: they may differ in reading and header, but carry the same places and agree in all else that a frame goes by.
use Rattle.std.specs.Prelude.{◌≡◌, ℕ, ◌/◌, ◌%◌}
use Rattle.fill.proofs.TabLaws.{tab-same}
use Rattle.fill.proofs.EachLaws.{each_same}
use Rattle.mc_config.specs.Config.{layout_of}
use Rattle.mc_payload.specs.declared.McSettings.{McSettings}
use Rattle.mc_payload.specs.Places.{config, pair, carried, source_at, transmitted, base_at, steps_at, own_at, place, steps_of, own_of}
use Rattle.mc_payload.specs.Payload.{Codes}
use Rattle.mc_payload.specs.Record.{raw_at, raw_of, excess_at, excesses_of, record_of}
use Rattle.mc_payload.specs.Unpack.{allocation_fits, allocations_fit, payload_of}

pub record Alike (s t : McSettings) : Type 0 where
  pub carries : (m sb : ℕ) → carried s m sb ≡ carried t m sb
  -- of the configuration
  pub pairs : pair s ≡ pair t
  pub layouts : layout_of (config s) ≡ layout_of (config t)
  pub seconds : (config s).second_stereo ≡ (config t).second_stereo
  -- of the header
  pub lfes : s.header.lfe ≡ t.header.lfe
  pub layers : s.header.multi_lingual_layer3 ≡ t.header.multi_lingual_layer3
  pub procedures : s.header.dematrix_procedure ≡ t.header.dematrix_procedure
  -- the rest of the settings
  pub rates : s.rate ≡ t.rate
  pub bases : s.base_channels ≡ t.base_channels
  pub statuses : s.status ≡ t.status
  pub allocations : s.lfe_allocation ≡ t.lfe_allocation
  pub counts : s.nb_steps ≡ t.nb_steps
  pub base_counts : s.base_nb_steps ≡ t.base_nb_steps

module _ (s t : McSettings) (e : Alike s t) where
  pub source-alike : (m sb : ℕ) → source_at s m sb ≡ source_at t m sb
  unfolding source_at
  source-alike m sb = rw (e.pairs, e.statuses)

  pub base-alike : (m sb : ℕ) → base_at s m sb ≡ base_at t m sb
  unfolding base_at
  base-alike m sb = rw (e.pairs, e.statuses, e.bases)

  pub steps_alike : (m sb : ℕ) → steps_at s m sb ≡ steps_at t m sb
  unfolding steps_at
  steps_alike m sb = rw (e.carries m sb, source-alike m sb, base-alike m sb, e.counts, e.base_counts)

  transmitted-alike : (m sb : ℕ) → transmitted s m sb ≡ transmitted t m sb
  unfolding transmitted
  transmitted-alike m sb = rw (e.carries m sb, source-alike m sb)

  own-alike : (m sb : ℕ) → own_at s m sb ≡ own_at t m sb
  unfolding own_at
  own-alike m sb = rw (transmitted-alike m sb, e.counts)

  pub allocations-alike : allocations_fit s ≡ allocations_fit t
  unfolding allocations_fit
  allocations-alike =
      rw (each_same (allocation_fits s) (allocation_fits t) 96 (λ k h. rw (transmitted-alike (k / 32) (k % 32), e.counts)), e.allocations, e.lfes)

  places-alike : (f g : ℕ → ℕ → ℕ) → ((m sb : ℕ) → f m sb ≡ g m sb) → (i : ℕ) → place f i ≡ place g i
  places-alike f g h i = h (i % 3) (i / 3)

  all-steps-alike : steps_of s ≡ steps_of t
  unfolding steps_of
  all-steps-alike = tab-same 96 (λ i h. places-alike (steps_at s) (steps_at t) steps_alike i)

  all-own-alike : own_of s ≡ own_of t
  unfolding own_of
  all-own-alike = tab-same 96 (λ i h. places-alike (own_at s) (own_at t) own-alike i)

  -- the same program of fields
  pub payload-alike : payload_of s ≡ payload_of t
  unfolding payload_of
  payload-alike = rw (all-steps-alike, all-own-alike, e.layers, e.allocations, e.statuses)

  raw-alike : (c : Codes) → raw_of s c ≡ raw_of t c
  unfolding raw_of raw_at
  raw-alike c = tab-same 3456 (λ k h. rw (own-alike (k / 1152) (k % 32)))

  pub excesses-alike : (c : Codes) → excesses_of s c ≡ excesses_of t c
  unfolding excesses_of excess_at
  excesses-alike c = tab-same 1152 (λ k h. rw (own-alike (k / 12 % 3) (k / 36)))

  -- and of the same codes the same record
  pub record-alike : (c : Codes) → record_of s c ≡ record_of t c
  unfolding record_of
  record-alike c = rw (raw-alike c, excesses-alike c, e.statuses, e.allocations)
