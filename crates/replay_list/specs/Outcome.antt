-- What is compared of a frame: six numbers, and the counts. Definitions only.
use Rattle.std.specs.Prelude.{ℕ, zero, suc, ◌+◌, ◌%◌, Bool, cond, not, List, [], ◌∷◌, codes, ◌==◌, nat_le, slice_index, slice_set, Float, Result}
use Rattle.encoding.specs.Encoding.{number_at, hash_number, hash_floats}
use Rattle.mc_error.specs.declared.McError.{McError}
use Rattle.mc_state.specs.declared.Accepted.{Accepted}
use Rattle.mc_state.specs.declared.McDecodeState.{McDecodeState}
use Rattle.mc_state.specs.Answer.{packed, outcome_of}
use Rattle.mc_state.specs.Frame.{Buffers}
use Rattle.replay_list.specs.declared.outcome.Parts.{Parts}
use Rattle.replay_list.specs.declared.tally.Tally.{Tally}

-- FNV-1a begins with this number
abbrev pub hash_of : List Float → ℕ
hash_of xs = hash_floats 14695981039346656037 xs

-- the hash h, the first n numbers more
unfoldable pub hash_numbers : ℕ → List ℕ → ℕ → ℕ
hash_numbers h xs zero = h
hash_numbers h xs (suc n) = hash_number (hash_numbers h xs n) (slice_index xs n)

unfoldable pub state_hash : McDecodeState → ℕ
state_hash s = hash_numbers (hash_number (hash_number (hash_of s.pred_hist) s.layout_len) s.layout) s.accepted 8

-- what the frame call reached: its packed answer, and the hashes of the four buffers and of the state
abbrev pub reached_of : Result Accepted McError → McDecodeState → Buffers → Parts ℕ
reached_of answer s w =
    record {
      answer = packed (outcome_of answer);
      raw = hash_of w.raw;
      work = hash_of w.work;
      output = hash_of w.output;
      lfe = hash_of w.lfe;
      state = state_hash s;
    }

-- what the list has
abbrev pub listed_of : List ℕ → Parts ℕ
listed_of opening =
    record {
      answer = number_at opening 40 8;
      raw = number_at opening 48 8;
      work = number_at opening 56 8;
      output = number_at opening 64 8;
      lfe = number_at opening 72 8;
      state = number_at opening 80 8;
    }

abbrev pub differences_of : Parts ℕ → Parts ℕ → Parts Bool
differences_of a b =
    record {
      answer = not (a.answer == b.answer);
      raw = not (a.raw == b.raw);
      work = not (a.work == b.work);
      output = not (a.output == b.output);
      lfe = not (a.lfe == b.lfe);
      state = not (a.state == b.state);
    }

-- each part by the words for it
abbrev pub named_of : Parts Bool → List (List ℕ × Bool)
named_of d =
    (codes "its answer", d.answer) ∷ (codes "raw", d.raw) ∷ (codes "work", d.work) ∷ (codes "output", d.output) ∷ (codes "lfe", d.lfe) ∷ (codes "its state", d.state) ∷ []

-- one more; counts start again past 64 bits
abbrev pub more : ℕ → ℕ → ℕ
more n k = (n + k) % 18446744073709551616

-- the counts by answer: the place 0 for acceptance, the others by the refusal's number
abbrev pub answered_of : List ℕ → ℕ → List ℕ
answered_of answers n = cond (nat_le 15 n) answers (slice_set answers n (more (slice_index answers n) 1))

abbrev pub tallied_of : Tally → ℕ → ℕ → Bool → Tally
tallied_of t answer values different =
    record {
      frames = more t.frames 1;
      answers = answered_of t.answers (answer % 256);
      values = more t.values values;
      different = more t.different (cond different 1 0);
    }
