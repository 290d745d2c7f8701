-- By the map's keys.
use Rattle.std.specs.Prelude.{◌≡◌, [], ◌∷◌, None, Some, find, is_none, is_some, option_map, IfErr, IfOk, OnOk, OnErr, MatchResult}
use Rattle.std.specs.List.Sorted.{IsPermutation}
use Rattle.std.specs.Map.{keys_of}
use Rattle.std.proofs.Common.{◌∙◌, ap, sym, subst}
use Rattle.seize_words.specs.declared.fault.Fault.TheVariants.{Capacity}
use Rattle.owner_map.specs.Given.{CannotGrow, RefusedKey, if_stored, put}
use Rattle.papaya_seq.specs.Sets.{KeepsIn, Set, put_in, set_of}
use Rattle.papaya_seq.proofs.Sets.{key_found, key_found_in_order, keys_are_found, keys_held, keys_in_order, keys_put, new_so}
use Rattle.papaya_seq.proofs.set.HashSet.insert.Goals.{in-Ok, in-Err}
use Rattle.papaya_seq.proofs.set.HashSet.insert.Goals as goal

pub returns-clause-fresh : goal.returns-clause-fresh
returns-clause-fresh g c =
    let test = g.K.PartialEq.eq c.args.element in
    let old = c.self.inside.map.pairs in
    elim c.match-put.branch [
      | in-Ok w ↦
          subst (λ r. IfOk r (λ new. new ≡ is_none (find test c.args.self.now.elements))) (sym w.result-is)
          (new_so w.in-Ok.was (find test c.args.self.now.elements)
          (w.in-Ok.ensures.some ∙ sym (keys_are_found test old) ∙ ap (λ (x : Set g.row.K.Denot g.row.S.Denot). is_some (find test x.elements)) c.self.view_is))
      | in-Err w ↦ subst (λ r. IfOk r (λ new. new ≡ is_none (find test c.args.self.now.elements))) (sym w.result-is) tt
    ]

pub returns-clause-stored : goal.returns-clause-stored
returns-clause-stored g c =
    let old = c.self.inside.map.pairs in let new = c.put.new.map.pairs in
    elim c.match-put.branch [
      | in-Ok w ↦
          subst (λ r. OnOk r (IsPermutation (keys_of new) (put_in g.K.PartialEq.eq c.args.self.now.elements c.args.element))) (sym w.result-is)
          (subst (λ (x : Set g.row.K.Denot g.row.S.Denot). IsPermutation (keys_of new) (put_in g.K.PartialEq.eq x.elements c.args.element)) c.self.view_is
          (subst (IsPermutation (keys_of new)) (keys_put g.K.PartialEq.eq old (c.args.element, tt)) (keys_in_order new (put g.K.PartialEq.eq old (c.args.element, tt)) w.in-Ok.ensures.stored)))
      | in-Err w ↦ subst (λ r. OnOk r (IsPermutation (keys_of new) (put_in g.K.PartialEq.eq c.args.self.now.elements c.args.element))) (sym w.result-is) tt
    ]

pub returns-clause-refused : goal.returns-clause-refused
returns-clause-refused g c =
    let old = c.self.inside.map.pairs in let new = c.put.new.map.pairs in
    elim c.match-put.branch [
      | in-Ok w ↦ subst (λ r. OnErr r (IsPermutation (keys_of new) c.args.self.now.elements)) (sym w.result-is) tt
      | in-Err w ↦
          subst (λ r. OnErr r (IsPermutation (keys_of new) c.args.self.now.elements)) (sym w.result-is)
          (subst (λ (x : Set g.row.K.Denot g.row.S.Denot). IsPermutation (keys_of new) x.elements) c.self.view_is (keys_in_order new old w.in-Err.ensures.refused))
    ]

pub returns-clause-last : goal.returns-clause-last
returns-clause-last g c =
    let test = g.K.PartialEq.eq c.args.element in
    let old = c.self.inside.map.pairs in
    let key = option_map (λ (x : g.row.K.Denot × Unit {0}). x.0) in
    let taken = key c.put.new.map.taken in let met = key c.put.new.map.met in
    elim c.match-put.branch [
      | in-Ok w ↦
          subst (λ r. MatchResult r (λ _. (taken ≡ find test c.args.self.now.elements) × (met ≡ Some c.args.element)) (λ _. (taken ≡ None) × (met ≡ None))) (sym w.result-is)
          (key_found test old c.put.new.map.taken w.in-Ok.ensures.last.0 ∙ ap (λ (x : Set g.row.K.Denot g.row.S.Denot). find test x.elements) c.self.view_is, ap key w.in-Ok.ensures.last.1)
      | in-Err w ↦
          subst (λ r. MatchResult r (λ _. (taken ≡ find test c.args.self.now.elements) × (met ≡ Some c.args.element)) (λ _. (taken ≡ None) × (met ≡ None))) (sym w.result-is)
          (ap key w.in-Err.ensures.last.0, ap key w.in-Err.ensures.last.1)
    ]

pub returns-clause-in_any_order : goal.returns-clause-in_any_order
returns-clause-in_any_order g c = λ xs order.
    let test = g.K.PartialEq.eq c.args.element in
    let old = c.self.inside.map.pairs in
    let taken = option_map (λ (x : g.row.K.Denot × Unit {0}). x.0) c.put.new.map.taken in
    let here = subst (λ (x : Set g.row.K.Denot g.row.S.Denot). IsPermutation x.elements xs) (sym c.self.view_is) order in
    elim c.match-put.branch [
      | in-Ok w ↦ subst (λ r. OnOk r (taken ≡ find test xs)) (sym w.result-is) (key_found_in_order test old c.put.new.map.taken w.in-Ok.ensures.in_any_order xs here)
      | in-Err w ↦ subst (λ r. OnOk r (taken ≡ find test xs)) (sym w.result-is) tt
    ]

pub returns-clause-keeps : goal.returns-clause-keeps
returns-clause-keeps g c =
    let old = c.self.inside.map in let new = c.put.new.map in let x = c.args.element in
    elim c.match-put.branch [
      | in-Ok w ↦
          subst (λ r. KeepsIn (if_stored r x) c.args.self.now (set_of new)) (sym w.result-is)
          (subst (λ (s : Set g.row.K.Denot g.row.S.Denot). KeepsIn (x ∷ []) s (set_of new)) c.self.view_is (keys_held ((x, tt) ∷ []) old new w.in-Ok.ensures.keeps))
      | in-Err w ↦
          subst (λ r. KeepsIn (if_stored r x) c.args.self.now (set_of new)) (sym w.result-is)
          (subst (λ (s : Set g.row.K.Denot g.row.S.Denot). KeepsIn [] s (set_of new)) c.self.view_is (keys_held [] old new w.in-Err.ensures.keeps))
    ]

pub returns-clause-capacity : goal.returns-clause-capacity
returns-clause-capacity g c =
    elim c.match-put.branch [
      | in-Ok w ↦ subst (λ r. IfErr r (λ (e : RefusedKey g.row.K.Denot). e.fault ≡ Capacity → CannotGrow c.put.new.map.tables)) (sym w.result-is) tt
      | in-Err w ↦ subst (λ r. IfErr r (λ (e : RefusedKey g.row.K.Denot). e.fault ≡ Capacity → CannotGrow c.put.new.map.tables)) (sym w.result-is) w.in-Err.ensures.capacity
    ]
