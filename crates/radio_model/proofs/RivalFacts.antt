-- What the medium works out of a transmission that overlaps another one is what the rule of reception asks.
use Rattle.std.proofs.Common.{◌≡◌, ◌+◌, ◌≤◌, List, Bool, true, false, ◌&&◌, ◌==◌, nat_lt}
use Rattle.std.proofs.Common.{if◌then◌else◌, Some, None, refl, arith, eq-eqb, Contains}
use Rattle.std.proofs.lemmas.Bool.Decides.{nat_tests}
use Rattle.std.proofs.lemmas.Bool.{and_parts, and_from, eqb-true, ltb-true, cond-true}
use Rattle.std.proofs.lemmas.Slice.Eq.{bytes_eq-Decides}
use Rattle.std.specs.Str.{bytes_eq}
use Rattle.lwb_base.specs.Profile.{Numbers}
use Rattle.radio_model.specs.OnAir.{Sending}
use Rattle.radio_model.specs.Hearing.{Meets, Before}
use Rattle.radio_model.specs.Stations.{on_air, overlaps}
use Rattle.radio_model.specs.Meetings.{key_of, comes_in_time, rival_to, rivals_in, rivals_to}
use Rattle.radio_model.specs.declared.station.Station.{Station}
use Rattle.radio_model.specs.declared.rivals.Rival.{Rival}
use Rattle.lwb_base.proofs.Elements.{in_filter, filter_from, in_flat, from_flat}

pub meets_true : (x y : Sending) → overlaps x y ≡ true → Meets x y
meets_true x y is = let both = and_parts (nat_lt x.start y.end) (nat_lt y.start x.end) is in
    record { before = ltb-true x.start y.end both.0; after = ltb-true y.start x.end both.1 }

pub meets_from : (x y : Sending) → Meets x y → overlaps x y ≡ true
meets_from x y m = let before = m.before in let after = m.after in grind (arith, nat_tests)

pub same_true : (y x : Sending) → bytes_eq y.packet x.packet ≡ true → y.packet ≡ x.packet
same_true y x = (bytes_eq-Decides y.packet x.packet).0

pub same_from : (y x : Sending) → y.packet ≡ x.packet → bytes_eq y.packet x.packet ≡ true
same_from y x = (bytes_eq-Decides y.packet x.packet).1

pub before_true : (p : Numbers) (x y : Sending) → comes_in_time p x y ≡ true → Before x y × (y.start ≤ x.start + p.delta)
before_true p x y is = (record { start = grind (arith, nat_tests); node = λ same. grind (arith, nat_tests) }, grind (arith, nat_tests))

pub before_from : (p : Numbers) (x y : Sending) → Before x y → y.start ≤ x.start + p.delta → comes_in_time p x y ≡ true
before_from p x y b close = let start = b.start in let node = b.node in grind (arith, nat_tests)

module _ (p : Numbers) (x : Sending) where
  abbrev pub rival : Station → Sending → Rival
  rival st y = record { node = st.node; key = key_of p y; same = bytes_eq y.packet x.packet; in_time = comes_in_time p x y }

  pub in_rivals : (sts : List Station) (st : Station) (y : Sending) → Contains sts st → Contains (on_air st) y → y.rank ≡ x.rank → Meets x y
      → Contains (rivals_to p x sts) (rival st y)
  in_rivals sts st y there kept rank meets =
      in_flat (rivals_in p x) sts st (rival st y) there
      (in_filter (rival_to p x st) (on_air st) y (rival st y) kept
      (cond-true ((y.rank == x.rank) && overlaps x y) (Some (rival st y)) None
      (and_from (y.rank == x.rank) (overlaps x y) (eq-eqb y.rank x.rank rank) (meets_from x y meets))))

  -- a rival comes of a transmission that is kept
  pub record Comes (sts : List Station) (r : Rival) : Type 0 where
    pub station : Station
    pub there : Contains sts station
    pub sending : Sending
    pub kept : Contains (on_air station) sending
    pub rank : sending.rank ≡ x.rank
    pub meets : Meets x sending
    pub is : rival station sending ≡ r

  pub of_test : (b : Bool) (s r : Rival) → (if b then Some s else None) ≡ Some r → (b ≡ true) × (s ≡ r)
  of_test true s r is = (refl, cc)
  of_test false s r is = cc

  pub from_rivals : (sts : List Station) (r : Rival) → Contains (rivals_to p x sts) r → Comes sts r
  from_rivals sts r there =
      let w = from_flat (rivals_in p x) sts r there in
      let y = filter_from (rival_to p x w.0) (on_air w.0) r w.2 in
      let both = of_test ((y.0.rank == x.rank) && overlaps x y.0) (rival w.0 y.0) r y.2 in
      let two = and_parts (y.0.rank == x.rank) (overlaps x y.0) both.0 in
      record { station = w.0; there = w.1; sending = y.0; kept = y.1; rank = eqb-true y.0.rank x.rank two.0; meets = meets_true x y.0 two.1; is = both.1 }
