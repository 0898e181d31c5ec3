-- Laws of the subband groups: twelve of them, the first eight of one subband each.
use Rattle.std.specs.Prelude.{◌≡◌, ℕ, ◌<◌, ltb}
use Rattle.std.proofs.Common.{arith, lt-ltb, ltb-true, lit<}
use Rattle.mc_config.proofs.CaseLaws.{cond-all, cond-split}
use Rattle.mc_config.specs.Groups.{sbgr_of}

pub sbgr-below : (sb : ℕ) → sbgr_of sb < 12
unfolding sbgr_of
sbgr-below sb =
    cond-split (λ n. n < 12) (ltb sb 8) (λ e. omega (arith, ltb-true sb 8 e))
    (λ e. cond-all (λ n. n < 12) (ltb sb 10) (lit< tt) (cond-all (λ n. n < 12) (ltb sb 12) (lit< tt) (cond-all (λ n. n < 12) (ltb sb 16) (lit< tt) (lit< tt))))

pub sbgr-single : (sb : ℕ) → sb < 8 → sbgr_of sb ≡ sb
unfolding sbgr_of
sbgr-single sb h = rw (lt-ltb sb 8 h)
