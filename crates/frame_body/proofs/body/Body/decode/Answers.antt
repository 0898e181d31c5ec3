-- `frame_body::body::Body::decode` meets its contract: the step counts and values that are lent are those of the bytes.
use Rattle.std.proofs.Common.{◌≡◌, List, ℕ, ◌+◌, ◌*◌, ◌≤◌, length, take, ap, ◌∙◌, length-take-le, arith}
use Rattle.fill.specs.Tab.{tab}
use Rattle.frame_file.proofs.FileLaws.{right_of}
use Rattle.frame_body.proofs.body.Body.decode.Goals as goal

-- the first n elements of a list, filled
filled : {A : Type 0} (f : ℕ → A) (n : ℕ) (d : List A) → n ≤ length d → {l : List A} → l ≡ tab f (length (take n d)) → l ≡ tab f n
filled f n d fits e = e ∙ ap (tab f) (length-take-le n d fits)

pub returns-clause-frame : goal.returns-clause-frame
returns-clause-frame c =
    let right = right_of c.args.self.frame.numbers c.args.self.frame.right in
    let channels = c.from-channels.result in
    let steps = filled _ (32 * channels + 96) _ (omega (arith, right.two, c.from-channels.ensures)) c.fill_steps.ensures in
    let values = filled _ (2304 * channels) _ (omega (arith, right.two, c.from-channels.ensures)) c.fill_values.ensures in
    c.decode_mc_frame.ensures.frame ∙ rw (c.lent.ensures, steps, values, c.values_at.ensures, c.from-channels.ensures)
