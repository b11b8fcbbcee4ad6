-- Each node of a valid run goes through each frame as it should.
use Rattle.std.proofs.Common.{◌≡◌, ℕ, suc, inl, inr, List, ◌∷◌, true, false, Some, Option, Contains, refl, sym, ◌∙◌, ap, subst, arith, true≢false}
use Rattle.bus_rules.specs.Cores.{Core, frame_ended}
use Rattle.bus_rules.specs.States.{StateOff, StateOn}
use Rattle.node_core.specs.declared.stage.Stage.TheVariants.{AwaitSlot, Scanning}
use Rattle.node_core.specs.Nodes.{Node}
use Rattle.scenario_text.specs.ScenarioParts.{ScenarioParts}
use Rattle.air_log.specs.declared.entry.Entry.{Entry}
use Rattle.air_log.specs.WindowLogs.{WindowLog, Closing}
use Rattle.air_log.specs.Devices.{Power, PowerOff, PowerOn, state_of_power}
use Rattle.scenario_text.specs.Setups.{setup_of}
use Rattle.lwb_base.proofs.Elements.{contains_head}
use Rattle.law_trails.specs.Walks.{AwaitsFrame}
use Rattle.law_trails.proofs.HeedfulLogs.{lawful_is_heedful}
use Rattle.law_safety.specs.Invariant.{IsObedientRun}
use Rattle.law_safety.specs.SetAlarms.{rank_at}
use Rattle.law_safety.proofs.InvariantHolds.{all_rows}
use Rattle.law_terms.specs.LawfulRuns.{IsLawfulRun}
use Rattle.law_terms.specs.FrameCourses.{ClosesTo, CoursesLaw, GoesThrough, IsCourse, IsWindowIn, OpensAt, StaysOff, power_after, power_at}
use Rattle.law_windows.proofs.FoundWindows.{FirstOf, IsLast, LaterThan, LinkOf, behind, first_of, link_of, once}
use Rattle.law_windows.proofs.FrameEnds.{EndsAs, IsEnd, counted, is_end}
use Rattle.law_windows.proofs.LinkedWindows.{HasEnded, IsFirst, IsLeft, LinksTo, Stands, windows_until}

not_off : (p : Power) (boots : ℕ) (n : Node) → p ≡ PowerOff boots → p ≡ PowerOn n → ⊥
not_off p boots n off on = cc

same_boots : (p : Power) (a b : ℕ) → p ≡ PowerOff a → p ≡ PowerOff b → a ≡ b
same_boots p a b is also = cc

same_nodes : (p : Power) (m n : Node) → p ≡ PowerOn m → p ≡ PowerOn n → m ≡ n
same_nodes p m n is also = cc

same_closing : (c : Option Closing) (x y : Closing) → c ≡ Some x → c ≡ Some y → x ≡ y
same_closing c x y is also = cc

-- a node that awaits a slot awaits no frame
no_frame : (n : Node) (j : ℕ) → n.stage ≡ AwaitSlot j → AwaitsFrame n.stage → ⊥
no_frame n j stage awaits = subst AwaitsFrame stage awaits

module _ (s : ScenarioParts) (clocks : ℕ → ℕ → ℕ) (air : List Entry) (v f : ℕ) (end : IsEnd s clocks air v f) where
  abbrev L : List WindowLog
  L = windows_until s clocks air v f

  abbrev In : WindowLog → Type 0
  In w = IsWindowIn s clocks air v f w

  abbrev StandsAt : Node → Type 0
  StandsAt n = Stands s clocks air v f L n

  -- the first window of the frame
  first : (w : WindowLog) → Contains L w → FirstOf s clocks air v L w
  first w there = first_of s clocks air v L end.linked w there

  link : (w : WindowLog) → In w → LinkOf s clocks air v L w
  link w is = link_of s clocks air v L end.linked w (end.all w is)

  -- the last of the frame
  left_in : (n : Node) (is : IsLeft s clocks air v f L n) → Contains L is.last
  left_in n is = subst (λ (l : List WindowLog). Contains l is.last) (sym is.is) (contains_head is.last is.earlier)

  -- a node that is off
  module _ (boots : ℕ) (off : power_at s clocks air v f ≡ PowerOff boots) where
    none_at : (w : WindowLog) → Contains L w → w.frame ≡ f → ⊥
    none_at w there frame =
        let found = first w there in
        not_off (power_at s clocks air v f) boots found.window.before off (ap (power_at s clocks air v) (sym (found.frame ∙ frame)) ∙ found.is.node)

    no_stand : (n : Node) → StandsAt n → ⊥
    no_stand n (inl is) = not_off (power_at s clocks air v f) boots n off is.node
    no_stand n (inr is) = none_at is.last (left_in n is) is.frame

    still_off : (p : Power) → EndsAs s clocks air v f L p → state_of_power p ≡ StateOff boots
    still_off (PowerOff after) is = ap (λ (b : ℕ). StateOff b) (same_boots (power_at s clocks air v f) after boots is.0 off)
    still_off (PowerOn n) is = absurd (no_stand is.before is.stands)

    pub stays_off : StaysOff s clocks air v f boots
    stays_off = record {
      none_ = λ w is. none_at w (end.all w is) is.frame;
      off = still_off (power_after s clocks air v f) end.ends;
    }

  -- a node that is on
  module _ (n : Node) (on : power_at s clocks air v f ≡ PowerOn n) (counts : n.frame ≡ f) where
    -- it is still on at the end of the frame
    record IsOver : Type 0 where
      pub after : Node
      pub power : power_after s clocks air v f ≡ PowerOn after
      pub ended : HasEnded s clocks air v f L after

    over_by : (p : Power) → power_after s clocks air v f ≡ p → EndsAs s clocks air v f L p → IsOver
    over_by (PowerOff boots) is ends = absurd (not_off (power_at s clocks air v f) boots n ends.0 on)
    over_by (PowerOn m) is ends = record { after = m; power = is; ended = ends }

    over : IsOver
    over = over_by (power_after s clocks air v f) refl end.ends

    -- the first window opens at this node
    first_at : (w : WindowLog) (earlier : List WindowLog) → w.frame ≡ f → IsFirst s clocks air v w.frame w.rank w.slot w.by_alarm w.before earlier
        → w.before ≡ n
    first_at w earlier frame is =
        same_nodes (power_at s clocks air v f) w.before n (ap (power_at s clocks air v) (sym frame) ∙ is.node) on

    ranks : (w : WindowLog) → In w → w.rank ≡ rank_at n
    ranks w is =
        let found = first w (end.all w is) in
        let at = first_at found.window found.earlier (found.frame ∙ is.frame) found.is in
        sym found.rank ∙ sym found.is.of_rank ∙ ap rank_at at

    -- by what it is linked to
    begins_by : (w : WindowLog) → In w → w.slot ≡ 0 → (earlier : List WindowLog) → LinksTo s clocks air v w earlier → w.before ≡ n
    begins_by w is zero earlier (inl first) = first_at w earlier is.frame first
    begins_by w is zero earlier (inr next) = absurd (let slot = next.of_slot in omega (arith, slot, zero))

    joins_by : (w : WindowLog) → In w → w.by_alarm ≡ false → (earlier : List WindowLog) → LinksTo s clocks air v w earlier → w.before ≡ n
    joins_by w is heard earlier (inl first) = first_at w earlier is.frame first
    joins_by w is heard earlier (inr next) = absurd (true≢false (sym next.alarm ∙ heard))

    follows_by : (w : WindowLog) (j : ℕ) → In w → w.by_alarm ≡ true → w.slot ≡ suc j → (of : LinkOf s clocks air v L w)
        → LinksTo s clocks air v w of.earlier → ClosesTo s clocks air v f w.rank j w.before
    follows_by w j is alarm slot of (inl first) = absurd (elim first.how [
      | inl heard ↦ true≢false (sym alarm ∙ heard.0)
      | inr begins ↦ (let zero = begins.1 in omega (arith, slot, zero))
    ])
    follows_by w j is alarm slot of (inr next) =
        let there : Contains of.earlier next.last = subst (λ (l : List WindowLog). Contains l next.last) (sym next.is) (contains_head next.last next.earlier) in
        record {
          window = next.last;
          here = end.stay next.last (of.inside next.last there) (next.of_frame ∙ is.frame);
          channel = next.of_rank;
          slot = (let of_slot = next.of_slot in omega (arith, of_slot, slot));
          closing = next.closing;
          closed = next.closed;
          node = next.node;
        }

    -- a node that awaits slot 0
    opens_first : n.stage ≡ AwaitSlot 0 → (m : Node) → AwaitsFrame m.stage → StandsAt m → OpensAt s clocks air v f (rank_at n) 0 n
    opens_first awaits m frame (inl is) =
        let same = same_nodes (power_at s clocks air v f) m n is.node on in
        absurd (no_frame n 0 awaits (subst (λ (k : Node). AwaitsFrame k.stage) same frame))
    opens_first awaits m frame (inr is) =
        let there = left_in m is in
        let found = first is.last there in
        let w = found.window in
        let of_frame : w.frame ≡ f = found.frame ∙ is.frame in
        let at : w.before ≡ n = first_at w found.earlier of_frame found.is in
        elim found.is.how [
          | inl heard ↦ absurd (let scans : n.stage ≡ Scanning = subst (λ (k : Node). k.stage ≡ Scanning) at heard.1 in cc)
          | inr alarm ↦ record {
            window = w;
            here = end.stay w found.there of_frame;
            channel = sym found.is.of_rank ∙ ap rank_at at;
            slot = alarm.1;
            by_alarm = alarm.0;
            node = at;
          }
        ]

    -- the last window of the frame left the node that awaited the frame's end
    last_left : (w : WindowLog) (c : Closing) → In w → w.closed ≡ Some c → IsLast s clocks air v L w
        → (m : Node) → StandsAt m → m ≡ c.after
    last_left w c is closed last m (inl untouched) =
        absurd (let earlier = untouched.first w (end.all w is) in let frame = is.frame in omega (arith, earlier, frame))
    last_left w c is closed last m (inr left) =
        let both : left.last ∷ left.earlier ≡ w ∷ last.earlier = sym left.is ∙ last.is in
        let same : left.last ≡ w = cc in
        let closed_too : w.closed ≡ Some left.closing = subst (λ (x : WindowLog). x.closed ≡ Some left.closing) same left.closed in
        let closing : left.closing ≡ c = same_closing w.closed left.closing c closed_too closed in
        sym left.node ∙ ap (λ (x : Closing). x.after) closing

    not_later : {A : Type 0} (w : WindowLog) → In w → LaterThan s clocks air v L w → A
    not_later w is later =
        absurd (let ahead = later.frame in let few = end.before later.window later.there in let frame = is.frame in omega (arith, ahead, few, frame))

    goes_on : (w : WindowLog) (c : Closing) → In w → w.closed ≡ Some c → c.after.stage ≡ AwaitSlot (suc w.slot)
        → OpensAt s clocks air v f w.rank (suc w.slot) c.after
    goes_on w c is closed awaits =
        elim (behind s clocks air v L end.linked w (end.all w is)) [
          | inl last ↦ (
              let o = over in
              let same = last_left w c is closed last o.ended.before o.ended.stands in
              absurd (no_frame c.after (suc w.slot) awaits (subst (λ (k : Node). AwaitsFrame k.stage) same o.ended.awaited))
              )
          | inr more ↦ elim more [
            | inl next ↦ record {
              window = next.window;
              here = end.stay next.window next.there (next.frame ∙ is.frame);
              channel = next.rank;
              slot = next.slot;
              by_alarm = next.alarm;
              node = sym next.node ∙ ap (λ (x : Closing). x.after) (same_closing w.closed next.closing c next.closed closed);
            }
            | inr later ↦ not_later w is later
          ]
        ]

    ends : (w : WindowLog) (c : Closing) → In w → w.closed ≡ Some c → (c.after.stage ≡ AwaitSlot (suc w.slot) → ⊥)
        → state_of_power (power_after s clocks air v f) ≡ StateOn (frame_ended (setup_of s v) f c.after.core)
    ends w c is closed rests =
        elim (behind s clocks air v L end.linked w (end.all w is)) [
          | inl last ↦ (
              let o = over in
              let same = last_left w c is closed last o.ended.before o.ended.stands in
              ap state_of_power o.power ∙ ap (λ (k : Core). StateOn k) o.ended.core ∙ ap (λ (k : Node). StateOn (frame_ended (setup_of s v) f k.core)) same
              )
          | inr more ↦ elim more [
            | inl next ↦ absurd (
                let same : c.after ≡ next.window.before = ap (λ (x : Closing). x.after) (same_closing w.closed c next.closing closed next.closed) ∙ next.node in
                rests (ap (λ (k : Node). k.stage) same ∙ next.awaited))
            | inr later ↦ not_later w is later
          ]
        ]

    rests_by : ((w : WindowLog) → In w → ⊥) → (m : Node) → StandsAt m → m ≡ n
    rests_by none m (inl is) = same_nodes (power_at s clocks air v f) m n is.node on
    rests_by none m (inr is) = absurd (none is.last (end.stay is.last (left_in m is) is.frame))

    pub is_course : IsCourse s clocks air v f n
    is_course = record {
      frame = counts;
      ranks = ranks;
      closes = λ w is. end.closed w (end.all w is);
      once = λ w x is also slot. once s clocks air v L end.linked w x (end.all w is) (end.all x also) (is.frame ∙ sym also.frame) slot;
      first = λ awaits. (let o = over in opens_first awaits o.ended.before o.ended.awaited o.ended.stands);
      begins = λ w is zero. (let of = link w is in begins_by w is zero of.earlier of.link);
      joins = λ w is heard. (let of = link w is in joins_by w is heard of.earlier of.link);
      goes_on = goes_on;
      follows = λ w j is alarm slot. (let of = link w is in follows_by w j is alarm slot of of.link);
      rests = λ none.
          (let o = over in
          ap state_of_power o.power ∙ ap (λ (k : Core). StateOn k) o.ended.core
          ∙ ap (λ (k : Node). StateOn (frame_ended (setup_of s v) f k.core)) (rests_by none o.ended.before o.ended.stands));
      ends = ends;
    }

goes_through : (s : ScenarioParts) (clocks : ℕ → ℕ → ℕ) (air : List Entry) (v f : ℕ) → IsEnd s clocks air v f
    → ((n : Node) → power_at s clocks air v f ≡ PowerOn n → n.frame ≡ f)
    → (p : Power) → power_at s clocks air v f ≡ p → GoesThrough s clocks air v f p
goes_through s clocks air v f end counts (PowerOff boots) is = stays_off s clocks air v f end boots is
goes_through s clocks air v f end counts (PowerOn n) is = is_course s clocks air v f end n is (counts n is)

pub run_of : (s : ScenarioParts) (clocks : ℕ → ℕ → ℕ) (air : List Entry) → IsLawfulRun s clocks air → IsObedientRun s clocks air
run_of s clocks air lawful = record {
  driven = record { sound = lawful.sound; drift = lawful.drift };
  heedful = lawful_is_heedful s clocks air lawful.lawful;
}

pub through_frames : CoursesLaw
through_frames s clocks air lawful v f known in_run =
    let run = run_of s clocks air lawful in
    let end = is_end s clocks air v f all_rows run known in_run in
    goes_through s clocks air v f end (counted s clocks air v f all_rows run known in_run) (power_at s clocks air v f) refl
