-- Newest transmissions that overlap and whose marks have one origin have one packet.
use Rattle.std.proofs.Common.{◌≡◌, ℕ, ◌+◌, ◌/◌, ◌≤◌, List, length, get_or, Bool, true, false, not, ◌&&◌, ◌||◌, ◌==◌}
use Rattle.std.proofs.Common.{nat_lt, nat_le, sym, ◌∙◌, ap, arith, inl, inr, Contains}
use Rattle.std.proofs.lemmas.Bool.{cases_lt, and_parts, eqb-true, leb-true, both_ways, false_from_ne_true, not-true}
use Rattle.std.specs.List.{list_any}
use Rattle.lwb_base.specs.Profile.{Numbers}
use Rattle.link_trace.specs.Passes.{Lines}
use Rattle.radio_model.specs.Hearing.{Meets}
use Rattle.radio_model.specs.Stations.{on_air, overlaps}
use Rattle.radio_model.specs.Marks.{IsMark, IsAlike, IsNewest, is_same, comes_along}
use Rattle.radio_model.specs.Meetings.{key_of, reaches, differs, spoils, rival_to, rivals_in, IsCrowd, no_crowd}
use Rattle.radio_model.specs.declared.mark.Mark.{Mark}
use Rattle.radio_model.specs.declared.mark.Origin.{Origin}
use Rattle.radio_model.specs.declared.rivals.Key.{Key}
use Rattle.radio_model.specs.declared.rivals.Rival.{Rival}
use Rattle.radio_model.specs.declared.sending.Sending.{Sending}
use Rattle.radio_model.specs.declared.station.Station.{Station}
use Rattle.radio_model.proofs.Crowds.{harmless_come}
use Rattle.lwb_base.proofs.Elements.{some_of, filter_from}
use Rattle.radio_model.proofs.RivalFacts.{rival, of_test, meets_true, same_from}

pub origin_from : (a b : Origin) → is_same a b ≡ true → a ≡ b
origin_from a b so =
    let both = and_parts (a.place == b.place) (a.start == b.start) so in
    let first : a ≡ record { place = b.place; start = a.start } =
    ap (λ (n : ℕ). let o : Origin = record { place = n; start = a.start } in o) (eqb-true a.place b.place both.0) in
    first ∙ ap (λ (n : ℕ). let o : Origin = record { place = b.place; start = n } in o) (eqb-true a.start b.start both.1)

abbrev timely : ℕ → Sending → ℕ → ℕ → Bool
timely delta x node start = (nat_lt x.start start || ((x.start == start) && nat_le x.node node)) && nat_le start (x.start + delta)

-- the rivals of a station come of its newest transmission, where nothing older of it can overlap x
pub record NewestRival (p : Numbers) (x : Sending) (st : Station) (r : Rival) : Type 0 where
  pub sending : Sending
  pub newest : IsNewest (on_air st) sending
  pub meets : Meets x sending
  pub is : rival p x st sending ≡ r

pub newest_rival : (p : Numbers) (x : Sending) (st : Station) (mk : Mark) → IsMark (on_air st) mk → mk.before ≤ x.start → (r : Rival)
    → Contains (rivals_in p x st) r → NewestRival p x st r
newest_rival p x st mk is before r there =
    let y = filter_from (rival_to p x st) (on_air st) r there in
    let test = of_test p x ((y.0.rank == x.rank) && overlaps x y.0) (rival p x st y.0) r y.2 in
    let met = meets_true x y.0 (and_parts (y.0.rank == x.rank) (overlaps x y.0) test.0).1 in
    record { sending = y.0; newest = newest_of y.0 y.1 met; meets = met; is = test.1 }
  where
    newest_of : (y : Sending) → Contains (on_air st) y → Meets x y → IsNewest (on_air st) y
    newest_of y (k, below, at) met = elim (cases_lt (k + 1) (length (on_air st))) [
      | inl earlier ↦
          let over = is.earlier k y earlier in
          let late = met.before in
          absurd (omega (arith, over, ap (λ (z : Sending). z.end) at, late, before))
      | inr last ↦ record { place = k; last = omega arith; there = at }
    ]

module _ (lines : Lines) (v : ℕ) (rs : List Rival) where
  pub all_same : ((r : Rival) → Contains rs r → r.same ≡ true) → list_any (differs lines v) rs ≡ false
  all_same same = false_from_ne_true (list_any (differs lines v) rs) (λ some.
      let r = some_of (differs lines v) rs some in
      let parts = and_parts (reaches lines v r.0) (not r.0.same) r.2 in
      both_ways r.0.same (not-true r.0.same parts.1) (same r.0 r.1))

  pub all_in_time : ((r : Rival) → Contains rs r → reaches lines v r ≡ true → r.in_time ≡ true) → list_any (spoils lines v) rs ≡ false
  all_in_time in_time = false_from_ne_true (list_any (spoils lines v) rs) (λ some.
      let r = some_of (spoils lines v) rs some in
      let parts = and_parts (reaches lines v r.0 && r.0.same) (not r.0.in_time) r.2 in
      both_ways r.0.in_time (not-true r.0.in_time parts.1) (in_time r.0 r.1 (and_parts (reaches lines v r.0) r.0.same parts.0).0))

-- transmissions of one frame and packet have one key
pub one_key : (p : Numbers) (x y : Sending) → y.start / p.frame ≡ x.start / p.frame → y.packet ≡ x.packet → key_of p y ≡ key_of p x
one_key p x y frame packet =
    ap (λ (f : ℕ). let k : Key = record { frame = f; slot = get_or y.packet 1 0; counter = get_or y.packet 2 0 } in k) frame
    ∙ ap (λ (bytes : List ℕ). let k : Key = record { frame = (key_of p x).frame; slot = get_or bytes 1 0; counter = get_or bytes 2 0 } in k) packet

-- what comes along with x
module _ (p : Numbers) (x : Sending) (st : Station) (mk : Mark) (origin : Origin) (delta : ℕ) (is : IsMark (on_air st) mk)
    (alike : IsAlike (on_air st) st.node mk origin x) (by : delta ≡ p.delta)
    (so : comes_along delta x origin st.node mk ≡ true) where
  one_packet : (r : Rival) → Contains (rivals_in p x st) r → (r.same ≡ true) × (r.in_time ≡ true)
  one_packet r there =
      let parts = and_parts (nat_le mk.before x.start && is_same mk.origin origin) (timely delta x st.node mk.start) so in
      let two = and_parts (nat_le mk.before x.start) (is_same mk.origin origin) parts.0 in
      let c = newest_rival p x st mk is (leb-true mk.before x.start two.0) r there in
      let y = c.sending in
      let own = alike y c.newest in
      let start : y.start ≡ mk.start = ap (λ (z : Sending). z.start) (sym c.newest.there) ∙ is.start c.newest.place y c.newest.last in
      let in_time : timely p.delta x y.node y.start ≡ true =
      ap (timely p.delta x y.node) start ∙ ap (λ (n : ℕ). timely p.delta x n mk.start) own.0 ∙ ap (λ (d : ℕ). timely d x st.node mk.start) (sym by)
      ∙ parts.1 in (
        ap (λ (w : Rival). w.same) (sym c.is) ∙ same_from y x (own.1 (origin_from mk.origin origin two.1) c.meets),
        ap (λ (w : Rival). w.in_time) (sym c.is) ∙ in_time,
      )

  pub along_comes : (lines : Lines) (nodes : List ℕ) (among : ℕ) → IsCrowd lines nodes among (rivals_in p x st) no_crowd
  along_comes lines nodes among = harmless_come lines nodes among (rivals_in p x st)
      (λ v. all_same lines v (rivals_in p x st) (λ r there. (one_packet r there).0))
      (λ v. all_in_time lines v (rivals_in p x st) (λ r there reached. (one_packet r there).1))
