-- Each map that lives is told.
use Rattle.std.specs.Prelude.{◌≡◌, ◌++◌, ◌∷◌, List, [], map}
use Rattle.std.proofs.Common.{rules, arith, ℕ, sym, ap, ◌∙◌, append_assoc}
use Rattle.std.proofs.lemmas.List.{append-nil, map-append, nil_from_length}
use Rattle.run_schedules.specs.declared.ended.Living.{Living}
use Rattle.play_events.specs.Given.ExecutorDeclared.named_map.NamedMap.{NamedMap}
use Rattle.papaya_steps.specs.WholeRuns.Ending.{shown_of, map_reported}
use Rattle.papaya_steps.proofs.ending.living.Goals as goal

pub loop-named-init : goal.loop-named-init
loop-named-init c =
    let given : c.into_iter-named-iterator.result.rest.items ≡ c.in_ok-maps.maps.items = let i = c.into_iter-named-iterator.ensures.into_iter_gives in search rules in
    ap (λ (l : List Living). map shown_of l ++ map (map_reported c.args.tally.now) c.into_iter-named-iterator.result.rest.items) c.new-living.ensures.items ∙ ap (map (map_reported c.args.tally.now)) (given ∙ c.in_ok-maps.ensures)

pub loop-named-preserved : goal.loop-named-preserved
loop-named-preserved c =
    let named = c.in-Some.named in
    let told = map_reported c.args.tally.now in
    let rest = c.next.new.self.rest.items in
    let next : c.loop-named.named-iterator.rest.items ≡ named ∷ rest = let s = c.in-Some.ensures.steps in search rules in
    let one : Living = record { name = named.name; pairs = c.in_ok-pairs.pairs } in
    let one_is : shown_of one ≡ told named = ap (λ (l : List ℕ). (named.name, l)) (c.in_ok-pairs.ensures ∙ c.in_ok-by_map.ensures named.number) in
    ap (λ (l : List Living). map shown_of l ++ map told rest) c.in_ok-push.ensures.items
    ∙ ap (λ l. l ++ map told rest) (map-append shown_of c.loop-named.living.items (one ∷ []) ∙ ap (λ x. map shown_of c.loop-named.living.items ++ x ∷ []) one_is)
    ∙ append_assoc (map shown_of c.loop-named.living.items) (told named ∷ []) (map told rest)
    ∙ ap (λ (l : List NamedMap). map shown_of c.loop-named.living.items ++ map told l) (sym next) ∙ c.loop-named.invariant

pub returns : goal.returns
returns c =
    let empty : c.loop-named.named-iterator.rest.items ≡ [] =
    nil_from_length c.loop-named.named-iterator.rest.items (let a = c.loop-named.named-iterator.rest.ok in let s = c.in-None.ensures.steps in omega (arith, a, s.0)) in
    sym (append-nil (map shown_of c.loop-named.living.items)) ∙ ap (λ (l : List NamedMap). map shown_of c.loop-named.living.items ++ map (map_reported c.args.tally.now) l) (sym empty) ∙ c.loop-named.invariant
