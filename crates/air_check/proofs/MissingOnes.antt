-- The first receiver that is missing.
use Rattle.std.proofs.Common.{◌≡◌, ℕ, ◌+◌, ◌<◌, ◌≤◌, ◌⊎◌, inl, inr, List, ◌∷◌, [], ◌++◌, take, length, get_or, true, not, ◌&&◌, ◌==◌}
use Rattle.std.proofs.Common.{refl, sym, ◌∙◌, ap, subst, arith, Contains, AllPairs, length-take-le}
use Rattle.std.specs.List.{list_any}
use Rattle.std.proofs.lemmas.Bool.{and_parts, eqb-true, cases_order}
use Rattle.std.proofs.lemmas.List.{get_or-take}
use Rattle.link_trace.specs.Passes.{Lines, passes, is_link, is_loss, cut_off}
use Rattle.link_trace.specs.declared.lines.LinkLine.{LinkLine}
use Rattle.scenario_text.specs.ScenarioParts.{ScenarioParts}
use Rattle.radio_model.specs.Hearing.{Before}
use Rattle.radio_model.specs.OnAir.{Sending}
use Rattle.radio_model.proofs.Members.{some_of, same_default}
use Rattle.air_log.specs.declared.entry.Entry.{Entry}
use Rattle.air_log.specs.Entries.{HasHeardEntry}
use Rattle.air_log.specs.Lawful.{FollowsTrails}
use Rattle.air_check.specs.Flags.{IsFirstOf}
use Rattle.air_check.specs.Indexes.{IsIndex}
use Rattle.air_check.specs.SenderLinks.{HaveLinksFrom}
use Rattle.air_check.specs.Verdicts.{IsGiven, IsMissing, IsFirstMissing}
use Rattle.air_check.specs.declared.index.Index.{Index}
use Rattle.air_check.proofs.Gathered.{one_of_node}

-- what passes from u to v does so by a link
pub link_between : (t : Lines) (f j k u v : ℕ) → passes t f j k u v ≡ true → (l : LinkLine) × Contains t.links l × (l.from ≡ u) × (l.to ≡ v)
link_between t f j k u v so =
    let link = list_any (is_link u v) t.links in
    let kept = not (list_any (is_loss f j k u v) t.losses) in
    let from = not (cut_off t.cuts f j k u) in
    let to = not (cut_off t.cuts f j k v) in
    let three = and_parts (link && kept && from) to so in
    let two = and_parts (link && kept) from three.0 in
    let one = and_parts link kept two.0 in
    let l = some_of (is_link u v) t.links one.0 in
    let both = and_parts (l.0.from == u) (l.0.to == v) l.2 in
    (l.0, l.1, eqb-true l.0.from u both.0, eqb-true l.0.to v both.1)

-- so some link from the sender leads to whoever a reception is given to
pub link_to : (s : ScenarioParts) (air : List Entry) (w : ℕ) (x y : Sending) (links some : List LinkLine) → links ≡ s.trace.links
    → HaveLinksFrom links y.node some → y ≡ x → IsGiven s air w x → (l : LinkLine) × Contains some l × (l.to ≡ w)
link_to s air w x y links some are have same given =
    let l = link_between s.trace _ _ _ x.node w given.heard.arrives in
    (l.0, have.all l.0 (subst (λ (ls : List LinkLine). Contains ls l.0) (sym are) l.1) (l.2 ∙ ap (λ (z : Sending). z.node) (sym same)), l.3)

in_taken : {X : Type 0} (xs : List X) (i k : ℕ) (x : X) → k < i → i ≤ length xs → get_or xs k x ≡ x → Contains (take i xs) x
in_taken xs i k x less within at = (k, omega (arith, less, length-take-le i xs within), get_or-take i xs k x less ∙ at)

pub least : (links : List LinkLine) (i : ℕ) (link : LinkLine) → AllPairs (λ (a b : LinkLine). a.to < b.to) links → i < length links
    → link ≡ get_or links i link → (l : LinkLine) → Contains links l → (Contains (take i links) l → ⊥) → link.to ≤ l.to
least links i link ascends below is l (k, within, at) never =
    elim (cases_order k i) [
      | inl here ↦
          let same : l ≡ link = sym at ∙ ap (λ (m : ℕ). get_or links m l) here ∙ same_default links i l link below ∙ sym is in
          omega (arith, ap (λ (x : LinkLine). x.to) same)
      | inr (inl less) ↦ absurd (never (in_taken links i k l less (omega arith) at))
      | inr (inr more) ↦
          let up = ascends i k l more within in
          omega (arith, up, ap (λ (x : LinkLine). x.to) at, ap (λ (x : LinkLine). x.to) (same_default links i l link below ∙ sym is))
    ]

-- at the place of the first transmission of which a reception is missing
module _ (s : ScenarioParts) (clocks : ℕ → ℕ → ℕ) (air : List Entry) (trails : FollowsTrails s clocks air) (i : Index) (is : IsIndex air i)
    (in_order : AllPairs Before i.sent.items) (k : ℕ) where
  abbrev sent : List Sending
  sent = i.sent.items

  abbrev AllBefore : Type 0
  AllBefore = (j w : ℕ) (d : Sending) → j < k → IsGiven s air w (get_or sent j d) → HasHeardEntry air w (get_or sent j d)

  pub first_missing : AllBefore → (x : Sending) → k < length sent → x ≡ get_or sent k x → (v u t : ℕ) → IsFirstOf s air x (Rattle.std.proofs.Common.Some v)
      → u ≡ x.node → t ≡ x.start → IsFirstMissing s air v u t
  first_missing all x below at v u t first node start = record {
    sending = x;
    missing = first.0;
    sender = node;
    start = start;
    first = λ w y m.
        let there = is.all_sent y m.given.heard.sent in
        let j : ℕ = there.0 in
        let within = there.1 in
        let here = there.2 in
        elim (cases_order j k) [
          | inl same ↦
              let eq : y ≡ x = sym here ∙ ap (λ (n : ℕ). get_or sent n y) same ∙ same_default sent k y x below ∙ sym at in
              let by = first.1 w (subst (λ (z : Sending). IsMissing s air w z) eq m) in
              let starts = ap (λ (z : Sending). z.start) eq in
              let nodes = ap (λ (z : Sending). z.node) eq in
              record { start = omega (arith, starts); sender = λ e. omega (arith, nodes); receiver = λ e f. by }
          | inr (inl less) ↦
              absurd (m.absent (subst (λ (z : Sending). HasHeardEntry air w z) here
              (all j w y less (subst (λ (z : Sending). IsGiven s air w z) (sym here) m.given))))
          | inr (inr more) ↦
              let before = subst (λ (z : Sending). Before x z) here
              (subst (λ (z : Sending). Before z (get_or sent j y)) (same_default sent k y x below ∙ sym at) (in_order k j y more within)) in
              record {
                start = before.start;
                sender = λ e. before.node e;
                receiver = λ e f.
                    let eq : x ≡ y = one_of_node s clocks air trails x y (is.sent x (k, below, sym at)) m.given.heard.sent f e in
                    first.1 w (subst (λ (z : Sending). IsMissing s air w z) (sym eq) m);
              }
        ];
  }

pub all_there : (s : ScenarioParts) (air : List Entry) (i : Index) → IsIndex air i → (k : ℕ) → length i.sent.items ≤ k
    → ((j w : ℕ) (d : Sending) → j < k → IsGiven s air w (get_or i.sent.items j d) → HasHeardEntry air w (get_or i.sent.items j d))
    → (v : ℕ) (x : Sending) → IsGiven s air v x → HasHeardEntry air v x
all_there s air i is k over all v x given =
    let there = is.all_sent x given.heard.sent in
    let j : ℕ = there.0 in
    let within = there.1 in
    let here = there.2 in
    subst (λ (y : Sending). HasHeardEntry air v y) here
    (all j v x (omega (arith, within, over)) (subst (λ (y : Sending). IsGiven s air v y) (sym here) given))
