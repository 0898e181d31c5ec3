-- Unpacking a payload string: what is lent is checked (refusal 6), then the allocations (8), then the payload is read (1, 3, 4).
use Rattle.std.specs.Prelude.{Bool, ◌&&◌, ◌||◌, cond, List, ℕ, ◌*◌, ◌/◌, ◌%◌, eqb, leb, length, get_or}
use Rattle.bits.specs.Syntax.{Syntax, Outcome, plain, refused, run}
use Rattle.fill.specs.Each.{each}
use Rattle.fill.specs.Tab.{tab}
use Rattle.bitalloc.specs.Classes.{is_class}
use Rattle.mc_config.specs.Reading.{reading_fits}
use Rattle.mc_config.specs.declared.McHeader.{McHeader}
use Rattle.mc_fields.specs.declared.McStatus.{McStatus}
use Rattle.mc_fields.specs.Lent.{string_fits, base_fits}
use Rattle.mc_payload.specs.declared.McSettings.{McSettings}
use Rattle.mc_payload.specs.Places.{transmitted, steps_of, own_of}
use Rattle.mc_payload.specs.Payload.{Codes, payload}

abbrev pub rate_fits : ℕ → Bool
rate_fits rate = eqb rate 48000 || (eqb rate 44100 || eqb rate 32000)

-- a step count: 0 or one of the 17
abbrev pub steps_fit : ℕ → Bool
steps_fit n = eqb n 0 || is_class n

-- reading, rate, base channel count, LFE allocation, step counts' number, and base step counts may be lent
unfoldable pub loan_fits : ℕ → ℕ → ℕ → ℕ → List ℕ → List ℕ → Bool
loan_fits reading rate base_channels lfe steps base_steps =
    reading_fits reading
    && (rate_fits rate
    && (base_fits base_channels
    && (leb lfe 15
    && (eqb (length steps) 96
    && (eqb (length base_steps) (32 * base_channels) && each (λ k. steps_fit (get_or base_steps k 0)) (32 * base_channels))))))

-- the transmitted step count of channel m in subband sb may stand: 0, or a class where it is transmitted
abbrev pub allocation_fits : McSettings → ℕ → Bool
allocation_fits s k =
    let n = get_or s.nb_steps k 0 in
    eqb n 0 || (is_class n && transmitted s (k / 32) (k % 32))

-- allocations that the head admits: all 96 places, and an LFE allocation only with an LFE channel
unfoldable pub allocations_fit : McSettings → Bool
allocations_fit s = each (allocation_fits s) 96 && (eqb s.lfe_allocation 0 || s.header.lfe)

-- the payload's program under the settings
unfoldable pub payload_of : McSettings → Syntax Codes
payload_of s = payload s.header.multi_lingual_layer3 s.lfe_allocation s.status.mc_prediction (steps_of s) (own_of s)

-- ---- what a payload is read under, as lent

pub record Loan : Type 0 where
  -- 1 or 2
  pub reading : ℕ
  -- 48000, 44100 or 32000
  pub rate : ℕ
  -- 1 or 2
  pub base_channels : ℕ
  pub header : McHeader
  pub status : McStatus
  -- LFE allocation, 0 to 15
  pub lfe : ℕ
  -- transmitted step counts: channel m and subband at 32 m + sb
  pub steps : List ℕ
  -- base step counts: channel ch and subband at 32 ch + sb
  pub base_steps : List ℕ

abbrev pub loan_by : ℕ → ℕ → ℕ → McHeader → McStatus → ℕ → List ℕ → List ℕ → Loan
loan_by reading rate base_channels header status lfe steps base_steps =
    record { reading = reading; rate = rate; base_channels = base_channels; header = header; status = status; lfe = lfe; steps = steps; base_steps = base_steps }

-- the lists as tables of fixed length, 0 past their ends
unfoldable pub settings_of : Loan → McSettings
settings_of l =
    record {
      reading = l.reading;
      rate = l.rate;
      base_channels = l.base_channels;
      header = l.header;
      status = l.status;
      lfe_allocation = l.lfe;
      nb_steps = tab (λ (k : ℕ). get_or l.steps k 0) 96;
      base_nb_steps = tab (λ (k : ℕ). get_or l.base_steps k 0) 64;
    }

unfoldable pub unpack_of : Loan → List ℕ → ℕ → Outcome Codes
unpack_of l bytes bits =
    let s = settings_of l in
    cond (string_fits bytes bits && loan_fits l.reading l.rate l.base_channels l.lfe l.steps l.base_steps)
    (cond (allocations_fit s) (run (payload_of s) bytes bits 0) (refused (plain 8)))
    (refused (plain 6))
