-- What the mark of a node tells where its newest transmission has the packet of x and begins close to it.
use Rattle.std.proofs.Common.{◌≡◌, ℕ, ◌+◌, ◌≤◌, ◌⊎◌, inl, inr, true, false, ◌&&◌, ◌||◌, ◌==◌, nat_lt, nat_le}
use Rattle.std.proofs.Common.{Contains, sym, ◌∙◌, ap, arith}
use Rattle.std.proofs.lemmas.Bool.Decides.{nat_tests}
use Rattle.std.proofs.lemmas.Bool.{cases_lt, lt-ltb, le-leb, and_from, or_left, both_ways}
use Rattle.std.specs.List.{list_any}
use Rattle.lwb_base.specs.Profile.{Numbers}
use Rattle.link_trace.specs.Passes.{Lines}
use Rattle.radio_model.specs.Hearing.{Meets}
use Rattle.radio_model.specs.Stations.{on_air}
use Rattle.radio_model.specs.Marks.{IsMark, IsAlike, IsNewest, comes_close}
use Rattle.radio_model.specs.Meetings.{key_of, IsInOneFrame, comes_in_time, passes_at, differs, spoils, rivals_in}
use Rattle.radio_model.specs.declared.mark.Mark.{Mark}
use Rattle.radio_model.specs.declared.mark.Origin.{Origin}
use Rattle.radio_model.specs.declared.rivals.Key.{Key}
use Rattle.radio_model.specs.declared.rivals.Rival.{Rival}
use Rattle.radio_model.specs.declared.sending.Sending.{Sending}
use Rattle.radio_model.specs.declared.station.Station.{Station}
use Rattle.radio_model.proofs.Alike.{all_in_time, all_same, newest_rival, one_key, origin_from}
use Rattle.radio_model.proofs.RivalFacts.{same_from}

module _ (p : Numbers) (x : Sending) (st : Station) (mk : Mark) (origin : Origin) (opens delta : ℕ) (is : IsMark (on_air st) mk) (alike : IsAlike
    (on_air st) st.node mk origin x) (starts : IsInOneFrame p.frame x.start opens) (by : delta ≡ p.delta)
    (so : comes_close opens (x.start + delta) x origin mk ≡ true) where
  record Told : Type 0 where
    before : mk.before ≤ x.start
    origin_is : mk.origin ≡ origin
    opened : opens ≤ mk.start
    by_then : mk.start ≤ x.start + delta

  told : Told
  told = let is = so in record {
    before = grind (arith, nat_tests);
    origin_is = origin_from mk.origin origin (grind (arith, nat_tests));
    opened = grind (arith, nat_tests);
    by_then = grind (arith, nat_tests);
  }

  -- it comes in time, or at the key of x
  apart : (y : Sending) → IsNewest (on_air st) y → Meets x y → (comes_in_time p x y ≡ true) ⊎ (key_of p y ≡ key_of p x)
  apart y newest met =
      let start : y.start ≡ mk.start = ap (λ (z : Sending). z.start) (sym newest.there) ∙ is.start newest.place y newest.last in
      elim (cases_lt x.start y.start) [
        | inl after ↦
            inl (and_from (nat_lt x.start y.start || ((x.start == y.start) && nat_le x.node y.node)) (nat_le y.start (x.start + p.delta))
            (or_left (nat_lt x.start y.start) ((x.start == y.start) && nat_le x.node y.node) (lt-ltb x.start y.start after))
            (le-leb y.start (x.start + p.delta) (omega (arith, start, told.by_then, by))))
        | inr not_after ↦
            let frame = starts y.start (omega (arith, told.opened, start)) not_after in
            inr (one_key p x y frame ((alike y newest).1 told.origin_is met))
      ]

  record Known (r : Rival) : Type 0 where
    same_is : r.same ≡ true
    node_is : r.node ≡ st.node
    apart_is : (r.in_time ≡ true) ⊎ (r.key ≡ key_of p x)

  known : (r : Rival) → Contains (rivals_in p x st) r → Known r
  known r there =
      let c = newest_rival p x st mk is told.before r there in
      let y = c.sending in
      record {
        same_is = ap (λ (w : Rival). w.same) (sym c.is) ∙ same_from y x ((alike y c.newest).1 told.origin_is c.meets);
        node_is = ap (λ (w : Rival). w.node) (sym c.is);
        apart_is = elim (apart y c.newest c.meets) [
          | inl timely ↦ inl (ap (λ (w : Rival). w.in_time) (sym c.is) ∙ timely)
          | inr key ↦ inr (ap (λ (w : Rival). w.key) (sym c.is) ∙ key)
        ];
      }

  pub close_same : (lines : Lines) (v : ℕ) → list_any (differs lines v) (rivals_in p x st) ≡ false
  close_same lines v = all_same lines v (rivals_in p x st) (λ r there. (known r there).same_is)

  pub close_harmless : (lines : Lines) (v : ℕ) → passes_at lines (key_of p x) st.node v ≡ false → list_any (spoils lines v) (rivals_in p x st) ≡ false
  close_harmless lines v cut = all_in_time lines v (rivals_in p x st) (λ r there reached.
      let k = known r there in
      elim k.apart_is [
        | inl timely ↦ timely
        | inr key ↦
            absurd (both_ways (passes_at lines (key_of p x) st.node v) cut
            (ap (λ (n : ℕ). passes_at lines (key_of p x) n v) (sym k.node_is) ∙ ap (λ (q : Key). passes_at lines q r.node v) (sym key) ∙ reached))
      ])
