use Rattle.std.proofs.Common.{◌≡◌, ℕ, ◌+◌, ◌-◌, ◌*◌, ◌/◌, ◌%◌, ◌<◌, ◌≤◌, inl, inr, sym, ◌∙◌, ap, arith}
use Rattle.std.proofs.Math.Nat.{mod-lt}
use Rattle.std.proofs.lemmas.Nat.{div-mul-add, div-add-mod'}
use Rattle.lwb_base.specs.Profile.{Numbers, IsProfile}
use Rattle.radio_model.proofs.rivals.frame_start.Goals as goal

some_frame : (p : Numbers) → IsProfile p → 0 < p.frame
some_frame p (inl one) = let frame = ap (λ (q : Numbers). q.frame) one in omega arith
some_frame p (inr two) = let frame = ap (λ (q : Numbers). q.frame) two.0 in omega arith

since : (f t k : ℕ) → 0 < f → t - t % f ≤ k → k ≤ t → k / f ≡ t / f
since f t k some from to =
    let parts = div-add-mod' t f in
    let less = mod-lt t some in
    let more : t / f * f + (k - t / f * f) ≡ k = omega arith in
    ap (λ (n : ℕ). n / f) (sym more) ∙ div-mul-add (t / f) f (k - t / f * f) (omega arith)

pub returns : goal.returns
returns c =
    λ k from to.
    let f = c.args.profile.now.frame in
    since f c.args.t k (some_frame c.args.profile.now c.frame.ensures.made)
    (let is = ap (λ (n : ℕ). c.args.t % n) c.frame.ensures.value in omega (arith, from, is)) to
