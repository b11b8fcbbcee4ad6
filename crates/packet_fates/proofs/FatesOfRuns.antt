-- What the tables and the frames of the emptyings say of a run is what became of its packets.
use Rattle.std.proofs.Common.{◌≡◌, ◌+◌, ◌<◌, ◌++◌, [], ◌∷◌, min, get_or, arith, ℕ, zero, suc, take, List, Option, Some, None, count_by, drop, filter}
use Rattle.std.proofs.Common.{filter_map, find, length, map, nat_lt, zip, option_map, refl, sym, ◌∙◌, ap, add-one}
use Rattle.std.proofs.lemmas.Bool.{cond_both}
use Rattle.std.proofs.lemmas.List.{get_or_default, take_all}
use Rattle.std.proofs.lemmas.List.Sums.{length-filter}
use Rattle.std.proofs.lemmas.Slice.Zip.{get_or-zip, length-zip}
use Rattle.lwb_base.proofs.Elements.{map_pushed}
use Rattle.std.specs.List.{cons_option, enumerate_from, list_any}
use Rattle.scenario_text.specs.ScenarioParts.{ScenarioParts}
use Rattle.scenario_text.specs.declared.script.ScriptLine.{ScriptLine}
use Rattle.bus_rules.specs.declared.act.Act.{Act}
use Rattle.bus_rules.specs.declared.act.Act.TheVariants.{On, Off, Declare, Leave, Put}
use Rattle.bus_rules.specs.States.{State, StateOff, StateOn, put_stream}
use Rattle.bus_rules.specs.Streams.{drops, stream_at}
use Rattle.bus_terms.specs.Bus.{bus_deliveries, state_before_line}
use Rattle.bus_terms.specs.Packets.{bus_puts, bus_sent, put_at, put_by, queued_packet}
use Rattle.bus_terms.specs.Fates.{bus_fates, fate_at, fate_by, fate_of, is_at_host, is_packet, packet_delivered}
use Rattle.bus_rules.specs.declared.delivery.Delivery.{Delivery}
use Rattle.bus_terms.specs.declared.packets.Fate.{Fate}
use Rattle.bus_terms.specs.declared.packets.Fate.TheVariants.{Sent}
use Rattle.bus_terms.specs.declared.packets.SentPacket.{SentPacket}
use Rattle.bus_terms.specs.declared.packets.PacketId.{PacketId}
use Rattle.bus_terms.specs.declared.packets.PutFate.{PutFate}
use Rattle.bus_terms.specs.declared.packets.PutLine.{PutLine}
use Rattle.packet_fates.specs.declared.bus_lists.BusLists.{BusLists}
use Rattle.packet_fates.specs.OneRun.{AreOfRun}
use Rattle.packet_fates.specs.Clearings.{cleared_in, put_clearings}
use Rattle.packet_fates.specs.Tables.{fate_in, is_received, put_fate_in}
use Rattle.packet_fates.proofs.CountedPackets.{some_pass_both}

drop_next : {X : Type 0} (xs ys : List X) (i : ℕ) (y : X) → drop i xs ≡ y ∷ ys → drop (i + 1) xs ≡ ys
drop_next xs ys i y is = by_recursion xs i is
  where
    by_recursion : (xs : List _) (i : ℕ) → drop i xs ≡ y ∷ ys → drop (i + 1) xs ≡ ys
    by_recursion [] zero is = cc
    by_recursion [] (suc i) is = cc
    by_recursion (x ∷ xs) zero is = cc
    by_recursion (x ∷ xs) (suc i) is = rw add-one (rw add-one at (by_recursion xs i is))

module _ (s : ScenarioParts) where
  abbrev made : PutLine × Option ℕ → PutFate
  made = put_fate_in s.hosts (bus_sent s) (bus_deliveries s)

  -- where these are the lines below place i
  same_fate : (i v j : ℕ) (below : List ScriptLine) (x : State) → drop (i + 1) s.script ≡ below
      → fate_of s i (queued_packet v j x) ≡ fate_in s.hosts (bus_sent s) (bus_deliveries s) (queued_packet v j x) (cleared_in v j below)
  same_fate i v j below (StateOff boots) is = refl
  same_fate i v j below (StateOn c) is =
      let x : PacketId = record { node = v; boot = c.boot; stream = j; seq = (stream_at c.streams j).next } in
      cond_both (drops c.streams j) None (Some x)
      (λ (o : Option PacketId). fate_of s i o ≡ fate_in s.hosts (bus_sent s) (bus_deliveries s) o (cleared_in v j below))
      (λ dropped. refl)
      (λ queued. ap (λ (ls : List ScriptLine). fate_in s.hosts (bus_sent s) (bus_deliveries s) (Some x) (cleared_in v j ls)) is)

  one_more : (i : ℕ) (l : ScriptLine) (below : List ScriptLine) (x : State) (a : Act) (puts : List PutLine) (frames : List (Option ℕ)) (fates : List PutFate)
      → drop (i + 1) s.script ≡ below
      → fates ≡ map made (zip puts frames)
      → cons_option (option_map (λ (p : PutLine). let f : PutFate = record { put = p; fate = fate_of s i p.packet } in f) (put_by l a x)) fates
      ≡ map made (zip (cons_option (put_by l a x) puts) (cons_option (option_map (λ j. cleared_in l.node j below) (put_stream a)) frames))
  one_more i l below x On puts frames fates is rest = rest
  one_more i l below x Off puts frames fates is rest = rest
  one_more i l below x (Declare j interval) puts frames fates is rest = rest
  one_more i l below x (Leave j) puts frames fates is rest = rest
  one_more i l below x (Put j payload) puts frames fates is rest =
      let p : PutLine = record { frame = l.frame; node = l.node; stream = j; packet = queued_packet l.node j x } in
      let here = same_fate i l.node j below x is in
      λ k. (record { put = p; fate = here k }) ∷ rest k

  below_place : (i : ℕ) (ls : List ScriptLine) → drop i s.script ≡ ls
      → filter_map (fate_at s) (enumerate_from i ls) ≡ map made (zip (filter_map (put_at s) (enumerate_from i ls)) (put_clearings ls))
  below_place i [] is = refl
  below_place i (l ∷ ls) is =
      let next = drop_next s.script ls i l is in
      one_more i l ls (state_before_line s (take i s.script) l) l.act (filter_map (put_at s) (enumerate_from (i + 1) ls)) (put_clearings ls)
      (filter_map (fate_at s) (enumerate_from (i + 1) ls)) next (below_place (i + 1) ls next)

  pub fates_are : map made (zip (bus_puts s) (put_clearings s.script)) ≡ bus_fates s
  fates_are = sym (below_place 0 s.script refl)

-- of a packet that was sent
module _ (hosts : List ℕ) (sent : List SentPacket) (deliveries : List Delivery) (x : PacketId) where
  abbrev of_packet : List Delivery
  of_packet = filter (λ (d : Delivery). is_packet x (packet_delivered d)) deliveries

  pub sent_fate : (o : Option PacketId) (cleared : Option ℕ) (t : SentPacket) (n m : ℕ) → o ≡ Some x → find (λ t. is_packet x t.packet) sent ≡ Some t
      → n ≡ count_by (λ d. is_packet x (packet_delivered d)) deliveries → m ≡ count_by (is_received hosts x) deliveries
      → Sent t.frame t.rank t.slot n (nat_lt 0 m) ≡ fate_in hosts sent deliveries o cleared
  sent_fate o cleared t n m is found counted received =
      let receivers : n ≡ length of_packet = counted ∙ sym (length-filter (λ (d : Delivery). is_packet x (packet_delivered d)) deliveries) in
      let at_host : nat_lt 0 m ≡ list_any (is_at_host hosts) of_packet =
      ap (nat_lt 0) received ∙ some_pass_both (is_at_host hosts) (λ (d : Delivery). is_packet x (packet_delivered d)) deliveries in
      (λ k. Sent t.frame t.rank t.slot (receivers k) (at_host k))
      ∙ ap (λ (u : Option SentPacket). fate_by u cleared (length of_packet) (list_any (is_at_host hosts) of_packet)) (sym found)
      ∙ ap (λ (u : Option PacketId). fate_in hosts sent deliveries u cleared) (sym is)

-- ---- a list of puts beside the frames in which their queues are emptied
module _ (hosts : List ℕ) (sent : List SentPacket) (deliveries : List Delivery) (puts : List PutLine) (frames : List (Option ℕ)) (i : ℕ) where
  pub fates_more : (p : PutLine) (fate : Fate) (fates : List PutFate) → i < min (length puts) (length frames) → p ≡ get_or puts i p
      → fate ≡ fate_in hosts sent deliveries p.packet (get_or frames i None) → fates ≡ map (put_fate_in hosts sent deliveries) (take i (zip puts frames))
      → (let x : PutFate = record { put = p; fate = fate } in fates ++ x ∷ [] ≡ map (put_fate_in hosts sent deliveries) (take (i + 1) (zip puts frames)))
  fates_more p fate fates below at is rest =
      let pairs = zip puts frames in
      let f = get_or frames i None in
      let long : i < length pairs = omega (arith, length-zip puts frames) in
      let here : (p, f) ≡ get_or pairs i (p, None) = (λ k. (at k, f)) ∙ sym (get_or-zip puts frames i (p, None) (omega arith) (omega arith)) in
      let there : (p, f) ≡ get_or pairs i (p, f) = here ∙ get_or_default pairs i (p, None) (p, f) long in
      map_pushed (put_fate_in hosts sent deliveries) pairs i (p, f) fates (record { put = p; fate = fate }) long there rest
      (λ k. record { put = p; fate = is k })

  pub fates_whole : (fates : List PutFate) → min (length puts) (length frames) ≡ i → fates ≡ map (put_fate_in hosts sent deliveries) (take i (zip puts frames))
      → fates ≡ map (put_fate_in hosts sent deliveries) (zip puts frames)
  fates_whole fates end is =
      is ∙ ap (map (put_fate_in hosts sent deliveries)) (take_all i (zip puts frames) (omega (arith, length-zip puts frames)))

pub fates_of_run : (s : ScenarioParts) (lists : BusLists) (frames : List (Option ℕ)) → AreOfRun s lists → frames ≡ put_clearings lists.script.now
    → (fates : List PutFate)
    → fates ≡ map (put_fate_in lists.hosts.now lists.sent.now lists.deliveries.now) (zip lists.puts.now frames) → fates ≡ bus_fates s
fates_of_run s lists frames run cleared fates is =
    is
    ∙ ap (λ (l : List (Option ℕ)). map (put_fate_in lists.hosts.now lists.sent.now lists.deliveries.now) (zip lists.puts.now l))
    (cleared ∙ ap put_clearings run.scripted)
    ∙ (λ k. map (put_fate_in (run.hosted k) (run.transmitted k) (run.delivered k)) (zip (run.put k) (put_clearings s.script)))
    ∙ fates_are s
