use Rattle.std.proofs.Common.{◌≡◌, ◌≤◌, ◌+◌, ◌++◌, ◌∷◌, [], ℕ, get_or, take, inl, inr, Contains, sym, ap, subst, ◌∙◌, Bool, List}
use Rattle.std.proofs.lemmas.List.{take_more, take_all}
use Rattle.std.proofs.lemmas.List.Elements.{Contains-push_cases}
use Rattle.link_trace.specs.Passes.{Lines}
use Rattle.link_trace.specs.declared.lines.LinkLine.{LinkLine}
use Rattle.radio_model.proofs.Members.{same_default}
use Rattle.air_log.specs.Entries.{hearings_of, HasHeardEntry}
use Rattle.air_check.specs.Flags.{IsGivenAndMissing}
use Rattle.air_check.specs.Verdicts.{IsGiven}
use Rattle.air_check.proofs.DueOnes.{missing_so, heard_so}
use Rattle.air_check.proofs.MissingOnes.{least, link_to}
use Rattle.air_check.proofs.missing.first_of.Goals as goal

pub returns-then-is_due : goal.returns-then-is_due
returns-then-is_due c =
    λ air d is are.
    let s = c.args.s.now in
    let sent = c.args.index.now.sent.items in
    let k = c.args.k in
    let x = get_or sent k d in
    let y = c.index-x.result.now in
    let links = c.links_from-links.result.now in
    let link = c.link-item.result in
    let due =
    subst (λ (b : Bool). IsGivenAndMissing s air (hearings_of air) link.to x b) c.if-is_due.true (c.is_due.ensures air (hearings_of air) d is are) in (
      missing_so s air link.to x due,
      λ w m.
          let l = link_to s air w x y c.links.result.now links (c.links.ensures.value ∙ ap (λ (t : Lines). t.links) c.trace.ensures.value)
          c.links_from-links.ensures (c.index-x.ensures ∙ same_default sent k y d c.requires.place) m.given in
          subst (λ (z : ℕ). link.to ≤ z) l.2
          (least links c.loop-link.link-index link c.links_from-links.ensures.ascending c.loop-link-test.true c.link-item.is l.0 l.1
          (λ early. m.absent (subst (λ (z : ℕ). HasHeardEntry air z x) l.2
          (c.loop-link.invariant air d is are l.0 early (subst (λ (z : ℕ). IsGiven s air z x) (sym l.2) m.given))))),
    )

pub loop-link-preserved : goal.loop-link-preserved
loop-link-preserved c =
    λ air d is are n there given.
    let s = c.args.s.now in
    let x = get_or c.args.index.now.sent.items c.args.k d in
    let links = c.links_from-links.result.now in
    let link = c.link-item.result in
    let i = c.loop-link.link-index in
    let due = subst (λ (b : Bool). IsGivenAndMissing s air (hearings_of air) link.to x b) c.if-is_due.false (c.is_due.ensures air (hearings_of air) d is are) in
    let more : take (i + 1) links ≡ take i links ++ link ∷ [] =
    take_more links i link c.loop-link-test.true ∙ ap (λ (z : LinkLine). take i links ++ z ∷ []) (sym c.link-item.is) in
    elim (Contains-push_cases (take i links) link n (subst (λ (ls : List LinkLine). Contains ls n) more there)) [
      | inl early ↦ c.loop-link.invariant air d is are n early given
      | inr here ↦
          subst (λ (z : LinkLine). HasHeardEntry air z.to x) here
          (heard_so s air link.to x due (subst (λ (z : LinkLine). IsGiven s air z.to x) (sym here) given))
    ]

pub returns : goal.returns
returns c =
    λ air d is are w given.
    let s = c.args.s.now in
    let sent = c.args.index.now.sent.items in
    let k = c.args.k in
    let x = get_or sent k d in
    let y = c.index-x.result.now in
    let links = c.links_from-links.result.now in
    let l = link_to s air w x y c.links.result.now links (c.links.ensures.value ∙ ap (λ (t : Lines). t.links) c.trace.ensures.value)
    c.links_from-links.ensures (c.index-x.ensures ∙ same_default sent k y d c.requires.place) given in
    subst (λ (z : ℕ). HasHeardEntry air z x) l.2
    (c.loop-link.invariant air d is are l.0
    (subst (λ (ls : List LinkLine). Contains ls l.0) (sym (take_all c.loop-link.link-index links c.loop-link-test.false)) l.1)
    (subst (λ (z : ℕ). IsGiven s air z x) (sym l.2) given))
