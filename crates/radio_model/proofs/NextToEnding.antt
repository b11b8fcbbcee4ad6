-- What the medium knows of transmissions that can matter, next to one of them.
use Rattle.std.proofs.Common.{◌≡◌, ℕ, ◌+◌, ◌-◌, ◌<◌, ◌≤◌, List, length, get_or, Bool, true, false, ◌&&◌, nat_lt, nat_le, if◌then◌else◌}
use Rattle.std.proofs.Common.{Option, Some, None, refl, sym, ◌∙◌, ap, arith}
use Rattle.std.proofs.lemmas.Bool.{le-leb, leb-true, lt-ltb, ltb-true, or_left, and_parts, and_from, false≢true}
use Rattle.std.proofs.lemmas.List.Elements.{Contains-get_or}
use Rattle.std.proofs.lemmas.Nat.Bits.{bit_at-zero}
use Rattle.std.specs.Int.{bit_at}
use Rattle.std.specs.List.{list_any}
use Rattle.lwb_base.specs.Profile.{Numbers}
use Rattle.radio_model.specs.Stations.{on_air, overlaps}
use Rattle.radio_model.specs.Marks.{AreMarks, no_mark, comes_close, is_same}
use Rattle.radio_model.specs.Recent.{AreRecent, AreAmong, is_of, is_close_by, busy_with}
use Rattle.radio_model.specs.declared.mark.Mark.{Mark}
use Rattle.radio_model.specs.declared.mark.Origin.{Origin}
use Rattle.radio_model.specs.declared.recent.Recent.{Recent}
use Rattle.radio_model.specs.declared.sending.Sending.{Sending}
use Rattle.radio_model.specs.declared.station.Station.{Station}
use Rattle.radio_model.proofs.Marked.{no_rivals_aside}
use Rattle.lwb_base.proofs.Elements.{any_of}

-- by the marks, those that have one origin come close to what runs
pub close_recent : (now : ℕ) (sts : List Station) (mks : List Mark) (r : Recent) → AreRecent now sts mks r → (i : ℕ) (d : Station) (x : Sending)
    → i < length sts → (get_or sts i d).sending ≡ Some x → (origin : Origin) (opens latest : ℕ) → is_close_by r origin opens latest ≡ true
    → (k : ℕ) (e : Mark) → bit_at r.places k ≡ 1 → comes_close opens latest x origin (get_or mks k e) ≡ true
close_recent now sts mks r are i d x below runs origin opens latest so k e one =
    let parts = and_parts (is_of r.origin origin && nat_le opens r.since) (nat_le r.newest latest) so in
    let two = and_parts (is_of r.origin origin) (nat_le opens r.since) parts.0 in
    let since = are.running i d x below runs in
    by r.origin refl two.0 since (leb-true opens r.since two.1) (leb-true r.newest latest parts.1)
  where
    by : (q : Option Origin) → r.origin ≡ q → is_of q origin ≡ true → r.since ≤ x.start → opens ≤ r.since → r.newest ≤ latest
        → comes_close opens latest x origin (get_or mks k e) ≡ true
    by None is so since early most = absurd (false≢true so)
    by (Some o) is so since early most =
        let mk = get_or mks k e in
        let at = are.close o is k e one in
        and_from (nat_le mk.before x.start && is_same mk.origin origin) (nat_le opens mk.start && nat_le mk.start latest)
        (and_from (nat_le mk.before x.start) (is_same mk.origin origin) (le-leb mk.before x.start (omega (arith, at.before, since)))
        (ap (λ (a : Origin). is_same a origin) at.origin_is ∙ so))
        (and_from (nat_le opens mk.start) (nat_le mk.start latest) (le-leb opens mk.start (omega (arith, at.from, early)))
        (le-leb mk.start latest (omega (arith, at.until, most))))

-- the rivals of what a station sends are at the places of these
pub among_recent : (p : Numbers) (now : ℕ) (sts : List Station) (mks : List Mark) (r : Recent) → AreMarks sts mks → AreRecent now sts mks r
    → (i : ℕ) (d : Station) (x : Sending) → i < length sts → (get_or sts i d).sending ≡ Some x
    → AreAmong p x sts r.places
among_recent p now sts mks r marks are i d x below runs = record {
  within = are.within;
  others = λ k e inside none.
      let mk = get_or mks k no_mark in
      let over : mk.end ≤ x.start = omega (arith, are.others k no_mark inside none, are.running i d x below runs) in
      no_rivals_aside p x (get_or sts k e) mk (marks.each k e no_mark inside) (or_left (nat_le mk.end x.start)
      (nat_le mk.before x.start && nat_le x.end mk.start) (le-leb mk.end x.start over));
}

-- those that are busy send next to what has these times
pub busy_recent : (now : ℕ) (sts : List Station) (mks : List Mark) (r : Recent) → AreMarks sts mks → AreRecent now sts mks r
    → (x : Sending) (k : ℕ) (d : Station) → bit_at (busy_with r x.start x.end) k ≡ 1 → list_any (overlaps x) (on_air (get_or sts k d)) ≡ true
busy_recent now sts mks r marks are x k d one = by (nat_lt x.start r.soonest && nat_lt r.newest x.end) refl one
  where
    by : (b : Bool) → (nat_lt x.start r.soonest && nat_lt r.newest x.end) ≡ b → bit_at (if b then r.places else 0) k ≡ 1
        → list_any (overlaps x) (on_air (get_or sts k d)) ≡ true
    by false is one = absurd (omega (arith, one, bit_at-zero k))
    by true is one =
        let both = and_parts (nat_lt x.start r.soonest) (nat_lt r.newest x.end) is in
        let mk = get_or mks k no_mark in
        let ys = on_air (get_or sts k d) in
        let m = marks.each k d no_mark (are.within k one) in
        let runs : x.start < mk.end = omega (arith, ltb-true x.start r.soonest both.0, are.ends_from k no_mark one) in
        let begins : mk.start < x.end = omega (arith, ltb-true r.newest x.end both.1, are.starts_by k no_mark one) in
        let some : 0 < length ys = m.some (omega (arith, runs)) in
        let j : ℕ = length ys - 1 in
        let last : j + 1 ≡ length ys = omega (arith, some) in
        let y = get_or ys j x in
        let start : y.start ≡ mk.start = m.start j x last in
        let end : y.end ≡ mk.end = m.end j x last in
        any_of (overlaps x) ys y (Contains-get_or ys j x (omega (arith, last)))
        (and_from (nat_lt x.start y.end) (nat_lt y.start x.end) (lt-ltb x.start y.end (omega (arith, runs, end)))
        (lt-ltb y.start x.end (omega (arith, begins, start))))
