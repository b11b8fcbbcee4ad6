-- What a flood replies to a packet, and what is left of it.
use Rattle.std.proofs.Common.{◌≡◌, ℕ, ◌<◌, List, Bool, true, false, not, nat_lt, if◌then◌else◌, refl, sym, ◌∙◌}
use Rattle.std.proofs.lemmas.Bool.{and_parts, cond-true, cond-false, ltb-true}
use Rattle.glossy_relay.specs.FloodState.{FloodState}
use Rattle.glossy_relay.specs.Relaying.{fits, counter_of, relay_of, first_of, after_heard, reply_to}
use Rattle.glossy_relay.specs.declared.flood.Reply.{Reply}
use Rattle.glossy_relay.specs.declared.flood.Reply.TheVariants.{Relay, Keep, Ignore}
use Rattle.radio_model.specs.declared.sending.Sending.{Sending}
use Rattle.lwb_flood.specs.declared.member.Act.{Act}
use Rattle.lwb_flood.specs.declared.member.Act.TheVariants.{Sends}
use Rattle.lwb_flood.specs.declared.member.Member.{Member}
use Rattle.lwb_flood.specs.FloodWorlds.{World, act_by, hearing_by, world_after_reception}
use Rattle.lwb_flood.proofs.FloodSoFar.{Runs}
use Rattle.lwb_flood.proofs.WorldLists.{each_changed}

-- what fits comes to a flood that has transmissions left and waits for none
pub fitting : (s : FloodState) (p : List ℕ) → fits s p ≡ true → (s.sent < s.limit) × (s.waiting ≡ false)
fitting s p is =
    let a = and_parts _ _ is in let b = and_parts _ _ a.0 in let c = and_parts _ _ b.0 in let d = and_parts _ _ c.0 in
    (ltb-true s.sent s.limit d.0, still s.waiting d.1)
  where
    still : (b : Bool) → not b ≡ true → b ≡ false
    still true is = sym is
    still false is = refl

-- what does not fit changes nothing
pub ignored : (s : FloodState) (p : List ℕ) → fits s p ≡ false → reply_to s p ≡ Ignore
ignored s p not = cond-false (fits s p) (if nat_lt (counter_of p) 11 then Relay (relay_of p) else Keep) Ignore not

pub left_as : (s : FloodState) (p : List ℕ) → fits s p ≡ false → after_heard s p ≡ s
left_as s p not = cond-false (fits s p) (record s { waiting = nat_lt (counter_of p) 11; first = first_of s.first p }) s not

pub taken_as : (s : FloodState) (p : List ℕ) → fits s p ≡ true → after_heard s p ≡ record s { waiting = nat_lt (counter_of p) 11; first = first_of s.first p }
taken_as s p fit = cond-true (fits s p) (record s { waiting = nat_lt (counter_of p) 11; first = first_of s.first p }) s fit

pub relays : (s : FloodState) (p : List ℕ) → fits s p ≡ true → nat_lt (counter_of p) 11 ≡ true → reply_to s p ≡ Relay (relay_of p)
relays s p fit less =
    cond-true (fits s p) (if nat_lt (counter_of p) 11 then Relay (relay_of p) else Keep) Ignore fit
    ∙ cond-true (nat_lt (counter_of p) 11) (Relay (relay_of p)) Keep less

pub keeps : (s : FloodState) (p : List ℕ) → fits s p ≡ true → nat_lt (counter_of p) 11 ≡ false → reply_to s p ≡ Keep
keeps s p fit more =
    cond-true (fits s p) (if nat_lt (counter_of p) 11 then Relay (relay_of p) else Keep) Ignore fit
    ∙ cond-false (nat_lt (counter_of p) 11) (Relay (relay_of p)) Keep more

-- a node that sends after a reception has sent before
act_back : (c : ℕ → ℕ) (e : ℕ) (r : Reply) (a : Act) (y : Sending) → act_by c e r a ≡ Sends y → a ≡ Sends y
act_back c e (Relay p) a y is = absurd (cc)
act_back c e Keep a y is = is
act_back c e Ignore a y is = is

pub heard_runs_back : (clock : ℕ → ℕ) (x : Sending) (v : ℕ) (w : World) (y : Sending) → Runs (world_after_reception clock x v w) y → Runs w y
heard_runs_back clock x v w y r =
    each_changed v (hearing_by clock x) w.members (λ (n : Member). n.act ≡ Sends y → Runs w y)
    (λ m there at act. record { member = m; there = there; act = act_back clock x.end (reply_to m.flood x.packet) m.act y act })
    (λ m there other act. record { member = m; there = there; act = act })
    r.member r.there r.act
