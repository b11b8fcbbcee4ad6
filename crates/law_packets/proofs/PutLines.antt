-- Each packet that is sent was queued by just one line of the script, of its frame or one before.
use Rattle.std.proofs.Common.{◌≡◌, ℕ, ◌≤◌, List, [], ◌∷◌, ◌++◌, Bool, true, false, cond, Option, Some, None, Contains, filter_map, find, flat_map}
use Rattle.std.proofs.Common.{inl, inr, option_to_list, refl, sym, ◌∙◌, ap, subst}
use Rattle.std.proofs.lemmas.Bool.{cases_Bool, false≢true}
use Rattle.std.proofs.lemmas.List.{append_assoc}
use Rattle.std.specs.List.{AllByRecursion}
use Rattle.std.specs.Option.{option_map_or}
use Rattle.lwb_base.specs.Messages.{Plan}
use Rattle.lwb_base.proofs.Elements.{contains_at, contains_cases, filter_from, from_flat, not_in_none}
use Rattle.lwb_base.proofs.LinesAbove.{given_below}
use Rattle.lwb_base.proofs.Lists.{each_append}
use Rattle.scenario_text.specs.ScenarioParts.{ScenarioParts}
use Rattle.scenario_text.specs.FloodDrafts.{Climbs}
use Rattle.scenario_text.specs.declared.script.ScriptLine.{ScriptLine}
use Rattle.bus_rules.specs.Streams.{stream_at}
use Rattle.bus_terms.specs.Bus.{frames_of, ranks_of, state_at}
use Rattle.bus_terms.specs.Fates.{queues}
use Rattle.bus_terms.specs.Packets.{bus_puts, round_sent, sent_in_slot}
use Rattle.bus_terms.specs.Rounds.{round_plan, slots_of}
use Rattle.bus_terms.specs.declared.packets.PacketId.{PacketId}
use Rattle.bus_terms.specs.declared.packets.PutLine.{PutLine}
use Rattle.bus_terms.specs.declared.packets.SentPacket.{SentPacket}
use Rattle.bus_terms.proofs.ListsInTurn.{in_turn_pairs, turn_append}
use Rattle.bus_terms.proofs.SamePackets.{packet_itself, same_packet}
use Rattle.law_packets.specs.Sendings.{AreQueuedOnce, QueueOther, WasPut, WerePut}
use Rattle.law_packets.proofs.KeptByRounds.{slots_keep}
use Rattle.law_packets.proofs.PutPackets.{AreKnown, IsPutUpTo, all_put, less_known}
use Rattle.law_packets.proofs.SentPackets.{sent_so}
use Rattle.law_packets.proofs.ToldLines.{put_below, put_so, puts_by_place}
use Rattle.law_packets.proofs.UsedNumbers.{not_both}

-- what the only element that passes is found by
find_only : {X : Type 0} (p : X → Bool) (xs : List X) (x : X) → Climbs (λ a b. p a ≡ true → p b ≡ false) xs → Contains xs x → p x ≡ true
    → find p xs ≡ Some x
find_only p [] x only there is = absurd (not_in_none x there)
find_only {X} p (y ∷ ys) x only there is =
    elim (contains_cases y ys x there) [
      | inl same ↦ ap (λ (b : Bool). cond b (Some y) (find p ys)) (ap p same ∙ is) ∙ ap (λ (z : X). Some z) same
      | inr behind ↦
          ap (λ (b : Bool). cond b (Some y) (find p ys)) (not_yet ys only.0 behind (p y) refl) ∙ find_only p ys x only.1 behind is
    ]
  where
    not_yet : (zs : List X) → AllByRecursion (λ z. p y ≡ true → p z ≡ false) zs → Contains zs x → (b : Bool) → p y ≡ b → b ≡ false
    not_yet zs others within false at = refl
    not_yet [] others within true at = absurd (not_in_none x within)
    not_yet (z ∷ zs) others within true at =
        elim (contains_cases z zs x within) [
          | inl same ↦ absurd (false≢true (sym (others.0 at) ∙ ap p same ∙ is))
          | inr later ↦ not_yet zs others.1 later true at
        ]

queued_so : (x : PacketId) (o : Option PacketId) → queues x o ≡ true → o ≡ Some x
queued_so x None is = absurd (false≢true is)
queued_so x (Some y) is = ap (λ (z : PacketId). Some z) (sym (same_packet x y is))

module _ (s : ScenarioParts) where
  other_lines : (above mid rest : List ScriptLine) (l m : ScriptLine) (a b : PutLine) → s.script ≡ above ++ l ∷ (mid ++ m ∷ rest)
      → put_below s above l ≡ Some a → put_below s (above ++ l ∷ mid) m ≡ Some b → QueueOther a b
  other_lines above mid rest l m a b whole first second x is =
      elim (cases_Bool (queues x b.packet)) [
        | inl too ↦
            absurd (not_both s above mid rest l m x whole (put_so l _ a x first (queued_so x a.packet is)) (put_so m _ b x second (queued_so x b.packet too)))
        | inr not ↦ not
      ]

  others_below : (above mid ls : List ScriptLine) (l : ScriptLine) (a : PutLine) → s.script ≡ above ++ l ∷ (mid ++ ls) → put_below s above l ≡ Some a
      → AllByRecursion (QueueOther a) (given_below (put_below s) (above ++ l ∷ mid) ls)
  others_below above mid [] l a whole first = tt
  others_below above mid (m ∷ ls) l a whole first =
      each_append (QueueOther a) (option_to_list (put_below s (above ++ l ∷ mid) m)) (given_below (put_below s) ((above ++ l ∷ mid) ++ m ∷ []) ls)
      (by_put (put_below s (above ++ l ∷ mid) m) refl)
      (subst (λ (xs : List ScriptLine). AllByRecursion (QueueOther a) (given_below (put_below s) xs ls)) (sym (append_assoc above (l ∷ mid) (m ∷ [])))
      (others_below above (mid ++ m ∷ []) ls l a
      (whole ∙ ap (λ (xs : List ScriptLine). above ++ l ∷ xs) (sym (append_assoc mid (m ∷ []) ls))) first))
    where
      by_put : (o : Option PutLine) → put_below s (above ++ l ∷ mid) m ≡ o → AllByRecursion (QueueOther a) (option_to_list o)
      by_put None is = tt
      by_put (Some b) is = (other_lines above mid ls l m a b whole first is, tt)

  all_below : (above ls : List ScriptLine) → s.script ≡ above ++ ls → Climbs QueueOther (given_below (put_below s) above ls)
  all_below above [] whole = tt
  all_below above (l ∷ ls) whole =
      turn_append QueueOther (option_to_list (put_below s above l)) (given_below (put_below s) (above ++ l ∷ []) ls) (alone (put_below s above l))
      (all_below (above ++ l ∷ []) ls (whole ∙ sym (append_assoc above (l ∷ []) ls))) (by_put (put_below s above l) refl)
    where
      alone : (o : Option PutLine) → Climbs QueueOther (option_to_list o)
      alone None = tt
      alone (Some a) = (tt, tt)

      by_put : (o : Option PutLine) → put_below s above l ≡ o
          → AllByRecursion (λ a. AllByRecursion (QueueOther a) (given_below (put_below s) (above ++ l ∷ []) ls)) (option_to_list o)
      by_put None is = tt
      by_put (Some a) is = (others_below above [] ls l a whole is, tt)

  in_turn : Climbs QueueOther (bus_puts s)
  in_turn = subst (Climbs QueueOther) (sym (puts_by_place s)) (all_below [] s.script refl)

  pub queued_once : AreQueuedOnce (bus_puts s)
  queued_once = in_turn_pairs QueueOther (bus_puts s) in_turn

  -- what is said in a slot waited there
  said_was_put : (rank f : ℕ) (p : Plan) (j : ℕ) (t : SentPacket) → sent_in_slot s rank f p (state_at s f) j ≡ Some t
      → IsPutUpTo s t.packet.node f t.packet.boot t.packet.stream t.packet.seq
  said_was_put rank f p j t is =
      let sent = sent_so s rank f p (state_at s f) j t is in
      let d = sent.packet in
      let said = sent.said.said in
      let known = slots_keep s (AreKnown (IsPutUpTo s d.node f)) (less_known (IsPutUpTo s d.node f)) rank f p d.node (state_at s f) (all_put s d.node f) j in
      let there = subst (AreKnown (IsPutUpTo s d.node f)) sent.said.on known in
      let put = there d.stream said.waiting (contains_at (stream_at sent.said.core.streams d.stream).queue 0 said.waiting said.first) in
      let of_boot = subst (λ (b : ℕ). IsPutUpTo s d.node f b d.stream said.waiting.seq) (sym said.of_boot) put in
      let of_number = subst (λ (n : ℕ). IsPutUpTo s d.node f d.boot d.stream n) (sym said.number) of_boot in
      subst (λ (u : SentPacket). IsPutUpTo s u.packet.node f u.packet.boot u.packet.stream u.packet.seq) (sym sent.is) of_number

  found_line : (f : ℕ) (t : SentPacket) → f ≡ t.frame → IsPutUpTo s t.packet.node f t.packet.boot t.packet.stream t.packet.seq → WasPut s t
  found_line f t at put = record {
    line = put.line;
    found = find_only (λ p. queues t.packet p.packet) (bus_puts s) put.line (by_list (bus_puts s) in_turn) put.among
        (ap (queues t.packet) put.queued ∙ packet_itself t.packet);
    early = subst (λ (g : ℕ). put.line.frame ≤ g) at put.early;
  }
    where
      by_list : (ps : List PutLine) → Climbs QueueOther ps → Climbs (λ a b. queues t.packet a.packet ≡ true → queues t.packet b.packet ≡ false) ps
      by_list [] is = tt
      by_list (p ∷ ps) is = (of_each ps is.0, by_list ps is.1)
        where
          of_each : (qs : List PutLine) → AllByRecursion (QueueOther p) qs
              → AllByRecursion (λ b. queues t.packet p.packet ≡ true → queues t.packet b.packet ≡ false) qs
          of_each [] is = tt
          of_each (q ∷ qs) is = (is.0 t.packet, of_each qs is.1)

  pub were_put : WerePut s
  were_put t there =
      let frame = from_flat (λ f. flat_map (λ rank. round_sent s rank f (state_at s f)) (ranks_of s)) (frames_of s) t there in
      let rank = from_flat (λ rank. round_sent s rank frame.0 (state_at s frame.0)) (ranks_of s) t frame.2 in
      by_plan rank.0 frame.0 (round_plan s rank.0 frame.0 (state_at s frame.0)) rank.2
    where
      by_plan : (rank f : ℕ) (o : Option Plan) → Contains (option_map_or (λ p. filter_map (sent_in_slot s rank f p (state_at s f)) (slots_of p)) o []) t
          → WasPut s t
      by_plan rank f None within = absurd (not_in_none t within)
      by_plan rank f (Some p) within =
          let slot = filter_from (sent_in_slot s rank f p (state_at s f)) (slots_of p) t within in
          let sent = sent_so s rank f p (state_at s f) slot.0 t slot.2 in
          found_line f t (ap (λ (u : SentPacket). u.frame) (sym sent.is)) (said_was_put rank f p slot.0 t slot.2)
