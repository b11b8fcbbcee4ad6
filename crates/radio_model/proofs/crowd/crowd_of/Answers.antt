use Rattle.std.proofs.Common.{◌≡◌, ℕ, ◌+◌, ◌∙◌, not, Option, Some, None, IfSome, get_or, sym, ap, arith}
use Rattle.std.proofs.lemmas.Nat.Bits.{bit_at-zero}
use Rattle.std.specs.Int.{bit_at}
use Rattle.radio_model.specs.Marks.{comes_close, no_mark}
use Rattle.radio_model.specs.Meetings.{passes_at, rivals_in, rivals_to, AddsTo, HasBitsOf, TellsAt}
use Rattle.radio_model.specs.declared.rivals.Key.{Key}
use Rattle.radio_model.proofs.Gathered.{both_bits, first_bit, near_and_far, tells_more_of}
use Rattle.radio_model.proofs.HeardInTurn.{left_bits}
use Rattle.radio_model.proofs.Those.{is_none, those_of_none}
use Rattle.radio_model.proofs.crowd.crowd_of.Goals as goal

both_some : {X : Type 0} (P Q R : X → Type 0) (o : Option X) → IfSome o P → IfSome o Q → ((x : X) → P x → Q x → R x) → IfSome o R
both_some P Q R None p q then = p
both_some P Q R (Some x) p q then = then x p q

pub crowd_with-requires-clause-within : goal.crowd_with-requires-clause-within
crowd_with-requires-clause-within g c = λ k one. c.requires.ending.among.within k (first_bit c.args.ending.now.places c.near_of-near.result k
    (sym (ap (λ (n : ℕ). bit_at n k) c.and.ensures) ∙ one))

pub returns-then-ending-clause-tells : goal.returns-then-ending-clause-tells
returns-then-ending-clause-tells g c =
    let lines = g.M.Links.lines c.args.links.now in
    let nodes = g.M.Links.nodes c.args.links.now in
    let e = c.args.ending.now in
    let ok = c.requires.ending in
    let p = e.profile.now in
    let x = e.x.now in
    let sts = e.stations.now in
    let near = c.near_of-near.result in
    let crowd = c.in_ok-crowd.crowd in
    λ i one.
    let inside = c.requires.within i one in
    near_and_far lines nodes p x sts e.marks.now e.origin e.opens e.delta e.places near c.except-far.result 0 i inside
    ok.few ok.opens ok.delta.0 ok.placed ok.in_order ok.marks ok.alike ok.among
    (λ k below none. ap (λ (q : Key). passes_at lines q (get_or nodes k 0) (get_or nodes i 0)) (sym ok.key) ∙ c.near_of-near.ensures i k one below none)
    c.except-far.ensures (λ d. those_of_none (λ k. not (comes_close e.opens (x.start + e.delta) x e.origin (get_or e.marks.now k d))) c.except-far.result
    (λ k one. ap not (ok.close_by c.if-ending.true k d (left_bits e.places near c.except-far.result k c.except-far.ensures one).0))) crowd
    (λ k d in_places in_near. c.in_ok-crowd.ensures.tells k i d inside one
    (ap (λ (n : ℕ). bit_at n k) c.and.ensures ∙ both_bits e.places near k in_places in_near))
    (λ k d there. absurd (omega (arith, there, bit_at-zero k)))

pub returns-then-is_empty-2-clause-tells : goal.returns-then-is_empty-2-clause-tells
returns-then-is_empty-2-clause-tells g c =
    let lines = g.M.Links.lines c.args.links.now in
    let nodes = g.M.Links.nodes c.args.links.now in
    let e = c.args.ending.now in
    let ok = c.requires.ending in
    let p = e.profile.now in
    let x = e.x.now in
    let sts = e.stations.now in
    let near = c.near_of-near.result in
    let strange = c.strangers-strange.result in
    let crowd = c.in_ok-crowd.crowd in
    λ i one.
    let inside = c.requires.within i one in
    near_and_far lines nodes p x sts e.marks.now e.origin e.opens e.delta e.places near c.except-far.result strange i inside
    ok.few ok.opens ok.delta.0 ok.placed ok.in_order ok.marks ok.alike ok.among
    (λ k below none. ap (λ (q : Key). passes_at lines q (get_or nodes k 0) (get_or nodes i 0)) (sym ok.key) ∙ c.near_of-near.ensures i k one below none)
    c.except-far.ensures c.strangers-strange.ensures crowd
    (λ k d in_places in_near. c.in_ok-crowd.ensures.tells k i d inside one
    (ap (λ (n : ℕ). bit_at n k) c.and.ensures ∙ both_bits e.places near k in_places in_near))
    (λ k d there. absurd (omega (
      arith,
      there,
      bit_at-zero k,
      ap (λ (n : ℕ). bit_at n k)
          (is_none strange c.is_empty-2.result c.is_empty-2.ensures c.if-is_empty-2.true),
    )))

pub crowd_with-requires-2-clause-within : goal.crowd_with-requires-2-clause-within
crowd_with-requires-2-clause-within g c =
    λ k one. c.requires.ending.among.within k (left_bits c.args.ending.now.places c.near_of-near.result c.except-far.result k
    c.except-far.ensures ((c.strangers-strange.ensures no_mark).among k one)).0

pub returns-clause-tells : goal.returns-clause-tells
returns-clause-tells g c =
    let lines = g.M.Links.lines c.args.links.now in
    let nodes = g.M.Links.nodes c.args.links.now in
    let e = c.args.ending.now in
    let ok = c.requires.ending in
    let p = e.profile.now in
    let x = e.x.now in
    let sts = e.stations.now in
    let near = c.near_of-near.result in
    let strange = c.strangers-strange.result in
    let first = c.in_ok-crowd.crowd in
    both_some (AddsTo first) (TellsAt lines nodes p x sts c.args.ready (λ k. bit_at strange k ≡ 1))
    (λ w. (i : ℕ) → bit_at c.args.ready i ≡ 1 → HasBitsOf lines nodes (rivals_to p x sts) i w) c.crowd_with-2.result c.crowd_with-2.ensures.adds
    c.crowd_with-2.ensures.tells (λ crowd adds tells i one.
    let inside = c.requires.within i one in
    near_and_far lines nodes p x sts e.marks.now e.origin e.opens e.delta e.places near c.except-far.result strange i inside
    ok.few ok.opens ok.delta.0 ok.placed ok.in_order ok.marks ok.alike ok.among
    (λ k below none. ap (λ (q : Key). passes_at lines q (get_or nodes k 0) (get_or nodes i 0)) (sym ok.key) ∙ c.near_of-near.ensures i k one below none)
    c.except-far.ensures c.strangers-strange.ensures crowd
    (λ k d in_places in_near. tells_more_of lines nodes (rivals_in p x (get_or sts k d)) i first crowd adds
    (c.in_ok-crowd.ensures.tells k i d inside one (ap (λ (n : ℕ). bit_at n k) c.and.ensures ∙ both_bits e.places near k in_places in_near)))
    (λ k d there. tells k i d inside one there))
