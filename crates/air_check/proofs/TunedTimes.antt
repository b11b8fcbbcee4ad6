-- The search in the tunings of a log tells until when a node is on a channel.
use Rattle.std.proofs.Common.{◌≡◌, ℕ, ◌-◌, ◌<◌, ◌≤◌, ◌⊎◌, inl, inr, List, length, true, false, ◌&&◌, ◌||◌, ◌==◌, nat_lt, nat_le}
use Rattle.std.proofs.Common.{Option, Some, None, IfSome, IfNone, sym, ◌∙◌, ap, subst, arith, Contains, get_or, AllPairs, eq-eqb, true≢false}
use Rattle.std.proofs.lemmas.Bool.{and_parts, and_from, or_cases, or_left, or_right, eqb-true, ltb-true, lt-ltb, leb-true, le-leb, cases_lt}
use Rattle.std.specs.List.Sorted.{IsPartitionedBy, IsPartitionPoint}
use Rattle.radio_model.specs.Hearing.{Scene, IsTuned}
use Rattle.air_check.specs.Tunings.{IsNoLater, AreTuned, IsUntil, begins_by}
use Rattle.air_check.specs.declared.tunings.Tuned.{Tuned}

module _ (v channel t : ℕ) where
  -- the order as numbers
  abbrev Begins : Tuned → Type 0
  Begins e = (e.node < v) ⊎ ((e.node ≡ v) × ((e.rank < channel) ⊎ ((e.rank ≡ channel) × (e.start ≤ t))))

  begins : (e : Tuned) → begins_by v channel t e ≡ true → Begins e
  begins e so = elim (or_cases (nat_lt e.node v) ((e.node == v) && (nat_lt e.rank channel || ((e.rank == channel) && nat_le e.start t))) so) [
    | inl less ↦ inl (ltb-true e.node v less)
    | inr rest ↦
        let two = and_parts (e.node == v) (nat_lt e.rank channel || ((e.rank == channel) && nat_le e.start t)) rest in
        inr (
          eqb-true e.node v two.0,
          elim (or_cases (nat_lt e.rank channel) ((e.rank == channel) && nat_le e.start t) two.1) [
            | inl less ↦ inl (ltb-true e.rank channel less)
            | inr last ↦ let three = and_parts (e.rank == channel) (nat_le e.start t) last in
                inr (eqb-true e.rank channel three.0, leb-true e.start t three.1)
          ],
        )
  ]

  begun_so : (e : Tuned) → Begins e → begins_by v channel t e ≡ true
  begun_so e (inl less) =
      or_left (nat_lt e.node v) ((e.node == v) && (nat_lt e.rank channel || ((e.rank == channel) && nat_le e.start t))) (lt-ltb e.node v less)
  begun_so e (inr (node, inl less)) =
      or_right (nat_lt e.node v) ((e.node == v) && (nat_lt e.rank channel || ((e.rank == channel) && nat_le e.start t)))
      (and_from (e.node == v) (nat_lt e.rank channel || ((e.rank == channel) && nat_le e.start t)) (eq-eqb e.node v node)
      (or_left (nat_lt e.rank channel) ((e.rank == channel) && nat_le e.start t) (lt-ltb e.rank channel less)))
  begun_so e (inr (node, inr (rank, start))) =
      or_right (nat_lt e.node v) ((e.node == v) && (nat_lt e.rank channel || ((e.rank == channel) && nat_le e.start t)))
      (and_from (e.node == v) (nat_lt e.rank channel || ((e.rank == channel) && nat_le e.start t)) (eq-eqb e.node v node)
      (or_right (nat_lt e.rank channel) ((e.rank == channel) && nat_le e.start t)
      (and_from (e.rank == channel) (nat_le e.start t) (eq-eqb e.rank channel rank) (le-leb e.start t start))))

  earlier : (e f : Tuned) → IsNoLater e f → Begins f → Begins e
  earlier e f by (inl less) = let n = by.node in inl (omega arith)
  earlier e f by (inr (node, inl less)) = elim (cases_lt e.node v) [
    | inl below ↦ inl below
    | inr not ↦ let n = by.node in let same : e.node ≡ f.node = omega arith in let r = by.rank same in inr (omega arith, inl (omega arith))
  ]
  earlier e f by (inr (node, inr (rank, start))) = elim (cases_lt e.node v) [
    | inl below ↦ inl below
    | inr not ↦
        let n = by.node in
        let same : e.node ≡ f.node = omega arith in
        let r = by.rank same in
        inr (
          omega arith,
          elim (cases_lt e.rank channel) [
            | inl less ↦ inl less
            | inr more ↦ let also : e.rank ≡ f.rank = omega arith in let s = by.start same also in inr (omega arith, omega arith)
          ],
        )
  ]

  pub parted : (es : List Tuned) → AllPairs IsNoLater es → IsPartitionedBy (begins_by v channel t) es
  parted es in_order i j d le below so = elim (cases_lt i j) [
    | inl less ↦ begun_so (get_or es i d) (earlier (get_or es i d) (get_or es j d) (in_order i j d less below) (begins (get_or es j d) so))
    | inr not ↦ let same : j ≡ i = omega arith in subst (λ (k : ℕ). begins_by v channel t (get_or es k d) ≡ true) same so
  ]

  module _ (a : Scene) (es : List Tuned) (are : AreTuned a.tunings es) (begun : ℕ) (within : begun ≤ length es)
      (point : IsPartitionPoint (λ e. begins_by v channel t e ≡ true) (λ e. begins_by v channel t e ≡ false) es begun) where
    -- a tuning that holds t is among those that have begun
    holding : (on : IsTuned a v channel t) → (are.all on.tuning on.there).place < begun
    holding on =
        let e = are.all on.tuning on.there in
        let d : Tuned = record { node = 0; rank = 0; start = 0; until = 0 } in
        elim (cases_lt e.place begun) [
          | inl below ↦ below
          | inr not ↦ absurd (true≢false (sym (begun_so (get_or es e.place d)
              (inr (e.node d ∙ on.node, inr (e.rank d ∙ on.rank, (let s = e.start d in let since = on.since in omega arith)))))
              ∙ point.1 e.place d not e.below))
        ]

    pub none_begun : begun ≡ 0 → IsTuned a v channel t → ⊥
    none_begun none on = let h = holding on in absurd (omega arith)

    module _ (last : Tuned) (some : 0 < begun) (at : last ≡ get_or es (begun - 1) last) where
      last_begins : Begins last
      last_begins = begins last (subst (λ (e : Tuned). begins_by v channel t e ≡ true) (sym at) (point.0 (begun - 1) last (omega arith) (omega arith)))

      there : Contains es last
      there = (begun - 1, omega arith, sym at)

      started : last.node ≡ v → last.rank ≡ channel → last.start ≤ t
      started node rank = elim last_begins [
        | inl less ↦ absurd (omega arith)
        | inr rest ↦ elim rest.1 [ inl less ↦ absurd (omega arith) | inr by ↦ by.1 ]
      ]

      over : (last.node ≡ v → last.rank ≡ channel → last.until ≤ t) → IsTuned a v channel t → ⊥
      over ended on =
          let e = are.all on.tuning on.there in
          let below = holding on in
          let until = on.until in
          let last_of : (last.node ≡ v) × (last.rank ≡ channel) = (elim (cases_lt e.place (begun - 1)) [
            | inl less ↦
                let by = subst (λ (f : Tuned). IsNoLater (get_or es e.place last) f) (sym at) (are.in_order e.place (begun - 1) last less (omega arith)) in
                let node = e.node last ∙ on.node in
                let rank = e.rank last ∙ on.rank in
                let n = by.node in
                elim last_begins [
                  | inl early ↦ absurd (omega arith)
                  | inr rest ↦
                      let same : (get_or es e.place last).node ≡ last.node = node ∙ sym rest.0 in
                      let r = by.rank same in
                      elim rest.1 [ inl early ↦ absurd (omega arith) | inr so ↦ (rest.0, so.0) ]
                ]
            | inr not ↦
                let same : e.place ≡ begun - 1 = omega arith in
                let is : get_or es e.place last ≡ last = ap (λ (k : ℕ). get_or es k last) same ∙ sym at in
                (ap (λ (f : Tuned). f.node) (sym is) ∙ e.node last ∙ on.node, ap (λ (f : Tuned). f.rank) (sym is) ∙ e.rank last ∙ on.rank)
          ]) in
          let lasts = e.lasts (begun - 1) last (omega arith) (omega arith) (ap (λ (f : Tuned). f.node) (sym at) ∙ last_of.0 ∙ sym on.node)
          (ap (λ (f : Tuned). f.rank) (sym at) ∙ last_of.1 ∙ sym on.rank) in
          let until_is = ap (λ (f : Tuned). f.until) at in
          let ends = ended last_of.0 last_of.1 in
          absurd (omega (arith, lasts, until_is, ends, until))

      goes_on : (e : ℕ) → last.node ≡ v → last.rank ≡ channel → t < e → e ≡ last.until → IsUntil a v channel t (Some e)
      goes_on e node rank more is =
          let o = are.of_them last there in
          let begins_at = started node rank in
          let start = o.start in
          let end = o.end in (
            more,
            λ w from to. record {
              tuning = o.tuning;
              there = o.there;
              node = o.node ∙ node;
              rank = o.rank ∙ rank;
              since = omega (arith, start, begins_at, from);
              until = omega (arith, end, is, to);
            },
          )

      pub until_is : (o : Option ℕ) → IfSome o (λ e. (last.node ≡ v) × (last.rank ≡ channel) × (t < e) × (e ≡ last.until))
          → IfNone o (last.node ≡ v → last.rank ≡ channel → last.until ≤ t) → IsUntil a v channel t o
      until_is None some none = over none
      until_is (Some e) (node, rank, more, is) none = goes_on e node rank more is
