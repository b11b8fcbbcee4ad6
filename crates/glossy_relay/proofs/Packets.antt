-- Each spelling names its kind by its first byte.
use Rattle.std.proofs.Common.{◌≡◌, ℕ, ◌==◌, List, true, ◌||◌, get_or, IsSome, is_some, Some, None, Option, inl, inr, sym, subst, refl}
use Rattle.std.proofs.lemmas.Bool.{and_parts, or_cases, eqb-true, cond_both, false≢true}
use Rattle.std.specs.Prelude.{unwrap_or}
use Rattle.lwb_base.specs.Messages.{Schedule}
use Rattle.lwb_packets.specs.declared.kind.Kind.TheVariants.{Payload}
use Rattle.lwb_packets.specs.DataPackets.{is_data}
use Rattle.lwb_packets.specs.Requests.{is_request}
use Rattle.lwb_packets.specs.Kinds.{kind_by}
use Rattle.schedule_codec.specs.Reading.{schedule_of, is_schedule}
use Rattle.schedule_codec.proofs.Readings.{spelled_by}
use Rattle.schedule_codec.proofs.Heads.{heads_of}
use Rattle.glossy_relay.specs.Relaying.{is_packet, is_spelling}

data_named : (p : List ℕ) → is_data p ≡ true → get_or p 0 0 ≡ 2
data_named p is =
    let seven = and_parts _ _ is in
    let six = and_parts _ _ seven.0 in
    let five = and_parts _ _ six.0 in
    let four = and_parts _ _ five.0 in
    let three = and_parts _ _ four.0 in
    let two = and_parts _ _ three.0 in
    let head = and_parts _ _ two.0 in
    eqb-true (get_or p 0 0) 2 head.1

request_named : (p : List ℕ) → is_request p ≡ true → get_or p 0 0 ≡ 3
request_named p is =
    let seven = and_parts _ _ is in
    let six = and_parts _ _ seven.0 in
    let five = and_parts _ _ six.0 in
    let four = and_parts _ _ five.0 in
    let three = and_parts _ _ four.0 in
    let two = and_parts _ _ three.0 in
    let head = and_parts _ _ two.0 in
    eqb-true (get_or p 0 0) 3 head.1

-- its first byte names a kind, and the bytes are a spelling of that kind
abbrev pub IsNamed : ℕ → List ℕ → Type 0
IsNamed byte p = IsSome (kind_by byte) × (is_spelling (unwrap_or (kind_by byte) Payload) p ≡ true)

schedule_named : (p : List ℕ) → is_schedule p ≡ true → IsNamed (get_or p 0 0) p
schedule_named p is = by_value (schedule_of p) refl is
  where
    by_value : (o : Option Schedule) → schedule_of p ≡ o → is_some o ≡ true → IsNamed (get_or p 0 0) p
    by_value None value none = absurd (false≢true none)
    by_value (Some s) value some =
        let kind = (heads_of p s (spelled_by p s value)).body.acknowledged.kind_is in
        subst (λ (n : ℕ). IsNamed n p) kind (cond_both (s.plan.contend == 0) 1 4 (λ (n : ℕ). IsNamed n p) (λ one. (refl, is)) (λ four. (refl, is)))

pub names_a_kind : (p : List ℕ) → is_packet p ≡ true → IsNamed (get_or p 0 0) p
names_a_kind p is =
    elim (or_cases (is_data p || is_request p) (is_schedule p) is) [
      | inl other ↦
          elim (or_cases (is_data p) (is_request p) other) [
            | inl data_packet ↦ subst (λ (n : ℕ). IsNamed n p) (sym (data_named p data_packet)) (refl, data_packet)
            | inr request ↦ subst (λ (n : ℕ). IsNamed n p) (sym (request_named p request)) (refl, request)
          ]
      | inr schedule ↦ schedule_named p schedule
    ]
