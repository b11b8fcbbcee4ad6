use Rattle.std.proofs.Common.{◌≡◌, Some, option_copied, unwrap_or, ap, sym, ◌∙◌}
use Rattle.packet_fates.proofs.FatesOfRuns.{sent_fate}
use Rattle.packet_fates.proofs.put_fates.Packets.fate.Goals as goal

pub returns-in-Some-get : goal.returns-in-Some-get
returns-in-Some-get c = λ hosts sent deliveries are.
    let x = c.in-Some.packet in
    let sending : _ ≡ Some c.in-Some-get.sending.now = sym (are.sent_first x) ∙ sym c.get.ensures.value ∙ ap option_copied c.in-Some-get.is in
    let counted : c.unwrap_or-receivers.result ≡ _ =
    c.unwrap_or-receivers.ensures ∙ ap (λ o. unwrap_or o 0) (c.copied.ensures ∙ c.get-in-Some-get.ensures.value) ∙ are.counted x in
    let received : c.unwrap_or-hosts.result ≡ _ =
    c.unwrap_or-hosts.ensures ∙ ap (λ o. unwrap_or o 0) (c.copied-in-Some-get.ensures ∙ c.get-in-Some-get-2.ensures.value) ∙ are.counted_at_hosts x in
    sent_fate hosts sent deliveries x c.args.packet c.args.cleared c.in-Some-get.sending.now c.unwrap_or-receivers.result c.unwrap_or-hosts.result c.in-Some.is
    sending counted received
