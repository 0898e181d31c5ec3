-- A property of every entry of a table, kept by a store.
use Rattle.std.specs.Prelude.{◌≡◌, List, ℕ, zero, suc, ◌<◌, length, get_or, set, replicate}
use Rattle.std.proofs.Common.{◌∙◌, arith, length-set, get_or-set_same, get_or-set_other}
use Rattle.std.proofs.Math.Decide.{ℕ_discrete, dec_lt}
use Rattle.std.proofs.lemmas.List.{length-replicate}
use Rattle.std.proofs.Math.Seq.{set_out}

-- t has N entries, and Q holds of each place and what stands there (0 past the end)
pub record Entries (N : ℕ) (Q : ℕ → ℕ → Type 0) (t : List ℕ) : Type 0 where
  pub sized : length t ≡ N
  pub entry : (k : ℕ) → Q k (get_or t k 0)

replicate-at : (P : ℕ → Type 0) (n v k : ℕ) → P v → P 0 → P (get_or (replicate n v) k 0)
replicate-at P zero v k h z = z
replicate-at P (suc n) v zero h z = h
replicate-at P (suc n) v (suc k) h z = replicate-at P n v k h z

pub entries-replicate : (n v : ℕ) {Q : ℕ → ℕ → Type 0} → ((k : ℕ) → Q k v) → ((k : ℕ) → Q k 0) → Entries n Q (replicate n v)
entries-replicate n v {Q} h z = record { sized = length-replicate n v; entry = λ k. replicate-at (Q k) n v k (h k) (z k) }

pub entries-zero : (n : ℕ) {Q : ℕ → ℕ → Type 0} → ((k : ℕ) → Q k 0) → Entries n Q (replicate n 0)
entries-zero n z = entries-replicate n 0 z z

pub entries-set : {N : ℕ} {Q : ℕ → ℕ → Type 0} {t : List ℕ} (i v : ℕ) → Q i v → Entries N Q t → Entries N Q (set t i v)
entries-set {Q = Q} {t = t} i v q e =
    record {
      sized = length-set t i v ∙ e.sized;
      entry = λ k. at k (ℕ_discrete k i);
    }
  where
    stored : Dec (i < length t) → Q i (get_or (set t i v) i 0)
    stored (yes h) = rw (get_or-set_same t i v 0 h) q
    stored (no h) = rw (set_out t i v (omega arith)) (e.entry i)

    at : (k : ℕ) → Dec (k ≡ i) → Q k (get_or (set t i v) k 0)
    at k (yes h) = rw h (stored (dec_lt i (length t)))
    at k (no h) = rw (get_or-set_other t i k v 0 h) (e.entry k)
