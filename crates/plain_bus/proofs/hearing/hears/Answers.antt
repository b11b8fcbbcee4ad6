use Rattle.std.proofs.Common.{◌≡◌, ◌<◌, ℕ, List, map, length, get_or, ◌∙◌, sym, ap, subst, bit_and}
use Rattle.bus_terms.specs.Flooding.{offer, pick}
use Rattle.plain_bus.specs.FloodMasks.{AreOffers, station_at, traced}
use Rattle.plain_bus.specs.declared.station.Station.{Station}
use Rattle.plain_bus.proofs.HeardByMasks.{offers_read, station_read, deaf, unreached, refused, heard}
use Rattle.plain_bus.proofs.hearing.hears.Goals as goal

pub returns-then-not-may_hear : goal.returns-then-not-may_hear
returns-then-not-may_hear g c s m flood known at =
    let t = traced (g.M.Links.lines c.args.links.now) (g.M.Links.nodes c.args.links.now) in
    let f = c.args.flood.now in
    let k = c.args.step in
    let place = c.args.place in
    let nodes = t.nodes in
    let v = get_or nodes place 0 in
    let x = c.index-deref-from.result in
    let below : place < length nodes = subst (λ (n : ℕ). place < n) c.requires.sealed c.requires.place in
    let read : x ≡ get_or c.args.now.now.each.items place x = c.index-deref-from.is ∙ ap (λ (l : List Station). get_or l c.from.result x) c.deref.ensures.0
    ∙ ap (λ (n : ℕ). get_or c.args.now.now.each.items n x) c.from.ensures in
    let is : x ≡ station_at m v = station_read s m t f k flood known place below c.args.now.now.each.items x at.each read in
    sym (deaf s m t f k flood known place below x is (sym c.may_hear.ensures ∙ c.if-not-may_hear.true))

pub returns-in_default : goal.returns-in_default
returns-in_default g c s m flood known at =
    let t = traced (g.M.Links.lines c.args.links.now) (g.M.Links.nodes c.args.links.now) in
    let f = c.args.flood.now in
    let k = c.args.step in
    let place = c.args.place in
    let nodes = t.nodes in
    let v = get_or nodes place 0 in
    let x = c.index-deref-from.result in
    let below : place < length nodes = subst (λ (n : ℕ). place < n) c.requires.sealed c.requires.place in
    let read : x ≡ get_or c.args.now.now.each.items place x = c.index-deref-from.is ∙ ap (λ (l : List Station). get_or l c.from.result x) c.deref.ensures.0
    ∙ ap (λ (n : ℕ). get_or c.args.now.now.each.items n x) c.from.ensures in
    let is : x ≡ station_at m v = station_read s m t f k flood known place below c.args.now.now.each.items x at.each read in
    let node : x.node ≡ v = ap (λ (y : Station). y.node) is in
    let offers : AreOffers (offer s m k v) (map (station_at m) nodes) (bit_and c.from_mask-reaching.result c.args.now.now.senders) =
    offers_read s m t f k flood known v c.from_mask-reaching.result c.args.now.now.senders c.from_mask-reaching.ensures at.senders in
    let offered : AreOffers (offer s m k x.node) c.as_slice.result.now (bit_and c.from_mask-reaching.result c.args.now.now.senders) =
    subst (λ (n : ℕ). AreOffers (offer s m k n) c.as_slice.result.now (bit_and c.from_mask-reaching.result c.args.now.now.senders)) (sym node)
    (subst (λ (l : List Station). AreOffers (offer s m k v) l (bit_and c.from_mask-reaching.result c.args.now.now.senders))
    (sym (c.as_slice.ensures.value ∙ at.each)) offers) in
    let from_is : bit_and c.from_mask-reaching.result c.args.now.now.senders ≡ c.and-from.result =
    sym (c.and-from.ensures ∙ ap (λ (n : ℕ). bit_and n c.args.now.now.senders) c.of_word.ensures) in
    let brought = subst (λ (n : ℕ). AreOffers (offer s m k x.node) c.as_slice.result.now n) from_is offered in
    let picked : pick s m k v ≡ c.picked.result = sym (c.picked.ensures s m flood known brought ∙ ap (λ (n : ℕ). pick s m k n) node) in
    sym (unreached s m t f k flood known place below (picked ∙ c.in_default.is))

pub returns-then-takes : goal.returns-then-takes
returns-then-takes g c s m flood known at =
    let t = traced (g.M.Links.lines c.args.links.now) (g.M.Links.nodes c.args.links.now) in
    let f = c.args.flood.now in
    let k = c.args.step in
    let place = c.args.place in
    let nodes = t.nodes in
    let v = get_or nodes place 0 in
    let x = c.index-deref-from.result in
    let below : place < length nodes = subst (λ (n : ℕ). place < n) c.requires.sealed c.requires.place in
    let read : x ≡ get_or c.args.now.now.each.items place x = c.index-deref-from.is ∙ ap (λ (l : List Station). get_or l c.from.result x) c.deref.ensures.0
    ∙ ap (λ (n : ℕ). get_or c.args.now.now.each.items n x) c.from.ensures in
    let is : x ≡ station_at m v = station_read s m t f k flood known place below c.args.now.now.each.items x at.each read in
    let node : x.node ≡ v = ap (λ (y : Station). y.node) is in
    let offers : AreOffers (offer s m k v) (map (station_at m) nodes) (bit_and c.from_mask-reaching.result c.args.now.now.senders) =
    offers_read s m t f k flood known v c.from_mask-reaching.result c.args.now.now.senders c.from_mask-reaching.ensures at.senders in
    let offered : AreOffers (offer s m k x.node) c.as_slice.result.now (bit_and c.from_mask-reaching.result c.args.now.now.senders) =
    subst (λ (n : ℕ). AreOffers (offer s m k n) c.as_slice.result.now (bit_and c.from_mask-reaching.result c.args.now.now.senders)) (sym node)
    (subst (λ (l : List Station). AreOffers (offer s m k v) l (bit_and c.from_mask-reaching.result c.args.now.now.senders))
    (sym (c.as_slice.ensures.value ∙ at.each)) offers) in
    let from_is : bit_and c.from_mask-reaching.result c.args.now.now.senders ≡ c.and-from.result =
    sym (c.and-from.ensures ∙ ap (λ (n : ℕ). bit_and n c.args.now.now.senders) c.of_word.ensures) in
    let brought = subst (λ (n : ℕ). AreOffers (offer s m k x.node) c.as_slice.result.now n) from_is offered in
    let picked : pick s m k v ≡ c.picked.result = sym (c.picked.ensures s m flood known brought ∙ ap (λ (n : ℕ). pick s m k n) node) in
    sym (heard s m t f k flood known place below x c.in-Some.origin is (sym c.may_hear.ensures ∙ c.if-not-may_hear.false) (picked ∙ c.in-Some.is)
    (sym c.takes.ensures ∙ c.if-takes.true))

pub returns-else-takes : goal.returns-else-takes
returns-else-takes g c s m flood known at =
    let t = traced (g.M.Links.lines c.args.links.now) (g.M.Links.nodes c.args.links.now) in
    let f = c.args.flood.now in
    let k = c.args.step in
    let place = c.args.place in
    let nodes = t.nodes in
    let v = get_or nodes place 0 in
    let x = c.index-deref-from.result in
    let below : place < length nodes = subst (λ (n : ℕ). place < n) c.requires.sealed c.requires.place in
    let read : x ≡ get_or c.args.now.now.each.items place x = c.index-deref-from.is ∙ ap (λ (l : List Station). get_or l c.from.result x) c.deref.ensures.0
    ∙ ap (λ (n : ℕ). get_or c.args.now.now.each.items n x) c.from.ensures in
    let is : x ≡ station_at m v = station_read s m t f k flood known place below c.args.now.now.each.items x at.each read in
    let node : x.node ≡ v = ap (λ (y : Station). y.node) is in
    let offers : AreOffers (offer s m k v) (map (station_at m) nodes) (bit_and c.from_mask-reaching.result c.args.now.now.senders) =
    offers_read s m t f k flood known v c.from_mask-reaching.result c.args.now.now.senders c.from_mask-reaching.ensures at.senders in
    let offered : AreOffers (offer s m k x.node) c.as_slice.result.now (bit_and c.from_mask-reaching.result c.args.now.now.senders) =
    subst (λ (n : ℕ). AreOffers (offer s m k n) c.as_slice.result.now (bit_and c.from_mask-reaching.result c.args.now.now.senders)) (sym node)
    (subst (λ (l : List Station). AreOffers (offer s m k v) l (bit_and c.from_mask-reaching.result c.args.now.now.senders))
    (sym (c.as_slice.ensures.value ∙ at.each)) offers) in
    let from_is : bit_and c.from_mask-reaching.result c.args.now.now.senders ≡ c.and-from.result =
    sym (c.and-from.ensures ∙ ap (λ (n : ℕ). bit_and n c.args.now.now.senders) c.of_word.ensures) in
    let brought = subst (λ (n : ℕ). AreOffers (offer s m k x.node) c.as_slice.result.now n) from_is offered in
    let picked : pick s m k v ≡ c.picked.result = sym (c.picked.ensures s m flood known brought ∙ ap (λ (n : ℕ). pick s m k n) node) in
    sym (refused s m t f k flood known place below x c.in-Some.origin is (picked ∙ c.in-Some.is) (sym c.takes.ensures ∙ c.if-takes.false))
