-- A world that came about from the start, what happens next, and what no row there does.
use Rattle.std.specs.Prelude.{Option, Some, None}
use Rattle.seize_model.specs.Given.SeizeWordsMem.{value_at}
use Rattle.map_facts_late.specs.Given.TablesDeclared.node.Node.TheVariants as node
use Rattle.std.proofs.Common.{◌≡◌, ap, sym, ◌∙◌, ℕ, ◌+◌, List, [], ◌∷◌, ◌++◌, refl, subst}
use Rattle.seize_model.specs.Given.SeizeDeclared.states.TheConstants.{LAST_SLOT}
use Rattle.seize_model.specs.Given.SeizeWorld.{World, Making, Event, Happens, Runs, IsOnto, at_start}
use Rattle.seize_model.proofs.Given.SeizeRuleWorld.Start.{start_good}
use Rattle.seize_model.proofs.Alone.Histories.Onto.{AllListsHeld, start_lists_held, runs_lists_held, onto_not_made, onto_listed}
use Rattle.seize_model.proofs.Alone.Histories.Reached.{Reached, runs_reached}
use Rattle.map_facts_late.specs.Given.TablesNodes.{deferred_word}
use Rattle.map_facts_late.specs.Given.TablesDeclared.node.Node.{Node}
use Rattle.many_calls.specs.Together.{CameAbout}

module _ {K V : Type 0} (size : ℕ) where
  runs_then : (first then : List (Event (Node K V))) (w v n : World (Node K V)) → Runs deferred_word size first w v → Runs deferred_word size then v n
      → Runs deferred_word size (first ++ then) w n
  runs_then [] then w v n a b = subst (λ (x : World (Node K V)). Runs deferred_word size then x n) a b
  runs_then (e ∷ first) then w v n a b = (a.0, a.1, runs_then first then a.0 v n a.2 b)

  start_reached : (roots : ℕ) → Reached deferred_word size (at_start (deferred_word {K = K} {V = V}) roots)
  start_reached roots = record { good = start_good deferred_word (LAST_SLOT + 1) size roots; sized = λ i. tt }

  pub came_reached : (w : World (Node K V)) → CameAbout size w → Reached deferred_word size w
  came_reached w (roots, events, runs) = runs_reached deferred_word size events (at_start deferred_word roots) w (start_reached roots) runs

  lists_held : (w : World (Node K V)) → CameAbout size w → AllListsHeld deferred_word size w
  lists_held w (roots, events, runs) = runs_lists_held deferred_word size events (at_start deferred_word roots) w (start_reached roots) (start_lists_held deferred_word size roots) runs

  -- no row puts a block behind one that its maker has
  pub none_onto_made : (w : World (Node K V)) → CameAbout size w → (j b i : ℕ) → IsOnto b (w.row j) → w.hand b ≡ Making i → ⊥
  none_onto_made w came = onto_not_made deferred_word size w (came_reached w came) (lists_held w came)

  -- nor behind a pair, which carries none
  pub none_onto_pair : (w : World (Node K V)) → CameAbout size w → (j b : ℕ) (key : K) (value : V) → value_at w.memory b ≡ Some (node.Pair key value) → IsOnto b (w.row j) → ⊥
  none_onto_pair w came j b key value is on =
      let l = (onto_listed deferred_word size w (came_reached w came) (lists_held w came) j b on).1 in
      no_list l.0 (same_value l.0 (sym is ∙ l.1)) l.2
    where
      same_value : (x : Node K V) → ◌≡◌ {A = Option (Node K V)} (Some (node.Pair key value)) (Some x) → node.Pair key value ≡ x
      same_value x e = cc e

      no_list : (x : Node K V) → node.Pair key value ≡ x → {field : ℕ} → deferred_word x ≡ Some field → ⊥
      no_list x e h = let none : deferred_word x ≡ None = ap deferred_word (sym e) in cc (none, h)

  pub came_on : (w n : World (Node K V)) (events : List (Event (Node K V))) → CameAbout size w → Runs deferred_word size events w n → CameAbout size n
  came_on w n events (roots, before, runs) on = (roots, before ++ events, runs_then before events (at_start deferred_word roots) w n runs on)

  pub came_next : (w n : World (Node K V)) (e : Event (Node K V)) → CameAbout size w → Happens deferred_word size e w n → CameAbout size n
  came_next w n e came h = came_on w n (e ∷ []) came (n, h, refl)
