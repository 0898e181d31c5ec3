-- What the exported unpacking answers, and what it leaves in the buffers of the record. Definitions only.
use Rattle.std.specs.Prelude.{Bool, ◌&&◌, cond, List, [], ℕ, ◌+◌, ◌*◌, ◌/◌, ◌%◌, eqb, Float, length, get_or}
use Rattle.std.specs.Float.{nan}
use Rattle.bits.specs.Syntax.{plain, Outcome, accepted, refused}
use Rattle.fill.specs.Tab.{tab}
use Rattle.mc_fields.specs.Lent.{string_fits, head_of}
use Rattle.mc_payload.specs.Unpack.{loan_by, loan_fits, settings_of, unpack_of}
use Rattle.mc_payload.specs.Payload.{Codes}
use Rattle.mc_payload.specs.Record.{lf_scalefactor_of, record_of, excess_codes}
use Rattle.mc_payload.specs.declared.McSettings.{McSettings}
use Rattle.mc_error.specs.Error.{packed_refusal}
use Rattle.part_tables.specs.Parts.{Head}

-- what the call is lent, beside the buffers
pub record Lent : Type 0 where
  pub head : List ℕ
  pub head_bits : ℕ
  pub payload : List ℕ
  pub payload_bits : ℕ
  -- of the transfer guide, 1 or 2
  pub reading : ℕ
  pub rate : ℕ
  pub base_channels : ℕ
  pub lfe : ℕ
  pub steps : List ℕ
  pub base_steps : List ℕ

abbrev pub lent_of : List ℕ → ℕ → List ℕ → ℕ → ℕ → ℕ → ℕ → ℕ → List ℕ → List ℕ → Lent
lent_of head head_bits payload payload_bits reading rate base_channels lfe steps base_steps =
    record {
      head = head;
      head_bits = head_bits;
      payload = payload;
      payload_bits = payload_bits;
      reading = reading;
      rate = rate;
      base_channels = base_channels;
      lfe = lfe;
      steps = steps;
      base_steps = base_steps;
    }

-- the buffers of the record
pub record Buffers : Type 0 where
  -- place 3 subband + channel
  pub scfsi : List ℕ
  -- group and predictor at 6 g + px
  pub delays : List ℕ
  -- group, predictor and coefficient at 3 (6 g + px) + k
  pub coefs : List Float
  -- place and part at 3 place + part
  pub scalefactors : List ℕ
  -- place and granule at 12 place + granule
  pub excesses : List ℕ
  pub raw : List Float
  pub lfe : List Float

abbrev pub buffers_from : List ℕ → List ℕ → List Float → List ℕ → List ℕ → List Float → List Float → Buffers
buffers_from scfsi delays coefs scalefactors excesses raw lfe =
    record { scfsi = scfsi; delays = delays; coefs = coefs; scalefactors = scalefactors; excesses = excesses; raw = raw; lfe = lfe }

-- the answer, packed, and what the buffers hold
pub record After : Type 0 where
  pub answer : ℕ
  pub buffers : Buffers

abbrev pub after_by : ℕ → Buffers → After
after_by n w = record { answer = n; buffers = w }

-- ---- refusal 6

-- lengths of the buffers
abbrev pub room_fits : ℕ → ℕ → ℕ → ℕ → ℕ → ℕ → ℕ → Bool
room_fits scfsi delays coefs scalefactors excesses raw lfe =
    eqb scfsi 96 && (eqb delays 48 && (eqb coefs 144 && (eqb scalefactors 288 && (eqb excesses 1152 && (eqb raw 3456 && eqb lfe 12)))))

-- all that is lent, the buffers by their lengths, may be lent
unfoldable pub lent_by : Lent → ℕ → ℕ → ℕ → ℕ → ℕ → ℕ → ℕ → Bool
lent_by l scfsi delays coefs scalefactors excesses raw lfe =
    string_fits l.head l.head_bits
    && (string_fits l.payload l.payload_bits
    && (loan_fits l.reading l.rate l.base_channels l.lfe l.steps l.base_steps
    && room_fits scfsi delays coefs scalefactors excesses raw lfe))

-- else wrong loan, refusal 6
abbrev pub lent_fits : Lent → Buffers → Bool
lent_fits l w = lent_by l (length w.scfsi) (length w.delays) (length w.coefs) (length w.scalefactors) (length w.excesses) (length w.raw) (length w.lfe)

-- ---- the record, one entry after another

-- the first n entries of a table
unfoldable pub entries : ℕ → List ℕ → List ℕ
entries n table = tab (λ (k : ℕ). get_or table k 0) n

-- delays by group and predictor
unfoldable pub flat_delays : List (List ℕ) → List ℕ
flat_delays d = tab (λ (k : ℕ). get_or (get_or d (k / 6) []) (k % 6) 0) 48

-- coefficients by group, predictor and coefficient
unfoldable pub flat_coefs : List (List (List Float)) → List Float
flat_coefs c = tab (λ (k : ℕ). get_or (get_or (get_or c (k / 18) []) (k / 3 % 6) []) (k % 3) nan) 144

-- ---- the whole call

-- number 0 in the low 8 bits, the used payload bits in the next 24, the LFE's scalefactor index in the next 8, and the number of excesses in the rest
abbrev pub packed_used : ℕ → ℕ → ℕ → ℕ
packed_used used lf_factor excess_codes = used % 16777216 * 256 + lf_factor * 4294967296 + excess_codes % 16777216 * 1099511627776

-- what a payload of these codes leaves; a refusal leaves every buffer as it was
unfoldable pub left_by : McSettings → Buffers → Outcome Codes → After
left_by s w (accepted c used) =
    let r = record_of s c in
    after_by (packed_used used (lf_scalefactor_of c) (excess_codes r.excess))
    (buffers_from (entries 96 c.0) (flat_delays r.delay) (flat_coefs r.coef) (entries 288 r.scalefactor) (entries 1152 r.excess) r.raw r.lfe)
left_by s w (refused x) = after_by (packed_refusal x) w

unfoldable pub under_head : Lent → Buffers → Head → After
under_head l w (accepted (h, (word, status)) used) =
    let loan = loan_by l.reading l.rate l.base_channels h status l.lfe l.steps l.base_steps in
    left_by (settings_of loan) w (unpack_of loan l.payload l.payload_bits)
under_head l w (refused x) = after_by (packed_refusal x) w

unfoldable pub part_of : Lent → Buffers → After
part_of l w =
    cond (lent_fits l w) (under_head l w (head_of l.reading l.head l.head_bits l.base_channels)) (after_by (packed_refusal (plain 6)) w)
