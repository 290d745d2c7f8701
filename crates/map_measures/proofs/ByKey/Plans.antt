-- Each step of a call by another form of a key has the plan of the call's by the key, with its ends turned into that call's.
use Rattle.std.specs.Prelude.{◌≡◌, ℕ, bit_and, ◌==◌, Bool, true, false, if◌then◌else◌, Option, Some, None, Ok, Err, option_map}
use Rattle.std.proofs.Common.{refl, ap, sym, subst, ◌∙◌}
use Rattle.std.proofs.Math.Path.{fun_ext}
use Rattle.seize_words.specs.OneMemory.Op.{Out, Add, Exchange, Load, Make, Rewrite, Take, Exchanged, Found, Made, Taken}
use Rattle.seize_words.specs.OneMemory.Plan.{Plan, Then, Turn, Do, Now, Seeing, Sure, then_as, plan_as}
use Rattle.seize_words.specs.OneMemory.Word.{block_in}
use Rattle.seize_words.specs.declared.at.At.TheVariants.{Root, Word}
use Rattle.seize.specs.declared.advance.Advance.{Advance}
use Rattle.seize.specs.declared.advance.Advance.TheVariants as progress
use Rattle.seize.specs.declared.rows.settle.Settled.{Settled}
use Rattle.seize.specs.declared.rows.settle.Settled.TheVariants as settling
use Rattle.map_tables.specs.Counts.{count_change}
use Rattle.map_tables.specs.Finding.{may_name}
use Rattle.map_tables.specs.Nodes.{table_seen, vacant}
use Rattle.map_tables.specs.TablePlaces.{at_word}
use Rattle.map_tables.specs.Trials.{place_tried}
use Rattle.map_tables.specs.declared.node.Node.{Node}
use Rattle.map_tables.specs.declared.node.Node.TheVariants as nodes
use Rattle.map_tables.specs.declared.table.Table.{Table}
use Rattle.map_tables.specs.declared.table_words.TheConstants.{NEXT}
use Rattle.map_machines.specs.Copier.{copier_plan}
use Rattle.map_machines.specs.Dispose.{dispose_plan}
use Rattle.map_machines.specs.Lookup.{lookup_plan, names_pair}
use Rattle.map_machines.specs.NewTable.{new_table_plan}
use Rattle.map_machines.specs.Sum.{sum_plan}
use Rattle.map_machines.specs.declared.copier.Copier.{Copier}
use Rattle.map_machines.specs.declared.dispose.Dispose.{Dispose}
use Rattle.map_machines.specs.declared.lookup.Lookup.{Lookup}
use Rattle.map_machines.specs.declared.new_table.NewTable.{NewTable}
use Rattle.map_machines.specs.declared.yielding.Yielding.{Yielding}
use Rattle.map_machines.specs.declared.yielding.Yielding.TheVariants as outcome
use Rattle.map_sweeps.specs.Reserves.Reserve.{reserve_plan}
use Rattle.map_sweeps.specs.Sweeps.Sweep.{sweep_plan}
use Rattle.many_calls.specs.Given.RawCall.{have_one_key, made, makes_of, root_found, next_found, dropped, key_read, pair_read, word_read, word_found, tried, looked, looks_for, first_made, next_made, disposed, helped, copied, plan_at, call_plan}
use Rattle.many_calls.specs.Given.RawCallFills.{filled, putting_by, fill_by, emptied, fills_with, given_up, asks_at}
use Rattle.many_calls.specs.Given.RawCallPoints.{entering, tableless, at_last, told, continued_in}
use Rattle.many_calls.specs.Given.RawMachine.{machine_plan, called, reserved, swept, counted as sum_counted}
use Rattle.many_calls.specs.Given.RawReplies.{value_for, as_own}
use Rattle.many_calls.specs.Given.RawDeclared.machines.answer.Called.{Called}
use Rattle.many_calls.specs.Given.RawDeclared.machines.answer.End.{End}
use Rattle.many_calls.specs.Given.RawDeclared.machines.answer.End.TheVariants as ends
use Rattle.many_calls.specs.Given.RawDeclared.machines.answer.KeyAnswer.{KeyAnswer}
use Rattle.many_calls.specs.Given.RawDeclared.machines.asking.Asking.{Asking}
use Rattle.many_calls.specs.Given.RawDeclared.machines.asking.Asking.TheVariants as asking
use Rattle.many_calls.specs.Given.RawDeclared.machines.call.Calling.{Calling}
use Rattle.many_calls.specs.Given.RawDeclared.machines.call.Calling.TheVariants as at
use Rattle.many_calls.specs.Given.RawDeclared.machines.call.KeyCall.{KeyCall}
use Rattle.many_calls.specs.Given.RawDeclared.machines.machine.Machine.{Machine}
use Rattle.many_calls.specs.Given.RawDeclared.machines.machine.Machine.TheVariants as kinds
use Rattle.map_measures.specs.ByKey.ByKey.{by_key, end_by_key, StepsByKey, RepliesByKey}
use Rattle.map_measures.proofs.ByKey.Points.{by, on, changed_on, counted_on, ending_on, at_last_on, replied_on, tableless_on, told_on, went_further}

-- the same step, with its outcome turned into another at once, and by way of a third
module _ {T A B C : Type 0} (f : A → C) (g : B → C) (h : A → B) (is : (a : A) → f a ≡ g (h a)) where
  then_through : (rest : Then T A) → then_as f rest ≡ then_as g (then_as h rest)
  then_through (Now end) = ap Now (is end)
  then_through (Seeing block rest) = ap (Seeing block) (fun_ext (λ value. then_through (rest value)))
  then_through (Sure fact rest) = ap (Sure fact) (then_through rest)

  plan_through : (plan : Plan T A) → plan_as f plan ≡ plan_as g (plan_as h plan)
  plan_through (Turn rest) = ap Turn (then_through rest)
  plan_through (Do op rest) = ap (Do op) (fun_ext (λ out. then_through (rest out)))

-- whether a form stands for a key
abbrev asked_as : {K Q : Type 0} → (K → K → Bool) → (Q → K) → Q → K → Bool
asked_as eq stands_for asked key = eq (stands_for asked) key

module _ {K V Q : Type 0} (eq : K → K → Bool) (stands_for : Q → K) where
  abbrev It : KeyCall K V Q → KeyCall K V K
  It c = by stands_for c

  abbrev On : KeyCall K V Q × Called (Node K V) → KeyCall K V K × Called (Node K V)
  On end = on stands_for end

  abbrev ThenOn : Then (Node K V) (KeyCall K V Q × Called (Node K V)) → Then (Node K V) (KeyCall K V K × Called (Node K V))
  ThenOn rest = then_as On rest

  abbrev PlanOn : Plan (Node K V) (KeyCall K V Q × Called (Node K V)) → Plan (Node K V) (KeyCall K V K × Called (Node K V))
  PlanOn plan = plan_as On plan

  made_on : (c : KeyCall K V Q) (out : Out (Node K V)) → made (It c) out ≡ ThenOn (made c out)
  made_on c (Made (Ok block)) = refl
  made_on c (Made (Err node)) = refl
  made_on c _ = refl

  makes_on : (c : KeyCall K V Q) (unmade : Option (Node K V)) → makes_of (It c) unmade ≡ PlanOn (makes_of c unmade)
  makes_on c (Some node) = ap (Do (Make node 0)) (fun_ext (made_on c))
  makes_on c None = refl

  root_on : (c : KeyCall K V Q) (out : Out (Node K V)) → root_found (It c) out ≡ ThenOn (root_found c out)
  root_on c (Found link) = of (link == 0)
    where
      of : (b : Bool) → (if b then Now (tableless c.missing (It c)) else Seeing (block_in link) (λ value. Now (entering (It c) (table_seen link value))))
          ≡ ThenOn (if b then Now (tableless c.missing c) else Seeing (block_in link) (λ value. Now (entering c (table_seen link value))))
      of true = ap Now (tableless_on stands_for c.missing c)
      of false = refl
  root_on c _ = refl

  next_on : (c : KeyCall K V Q) (out : Out (Node K V)) → next_found (It c) out ≡ ThenOn (next_found c out)
  next_on c (Found link) = of (link == 0)
    where
      of : (b : Bool) → (if b then Now (at_last c.missing (It c)) else Seeing (block_in link) (λ value. Now (continued_in (It c) (table_seen link value))))
          ≡ ThenOn (if b then Now (at_last c.missing c) else Seeing (block_in link) (λ value. Now (continued_in c (table_seen link value))))
      of true = ap Now (at_last_on stands_for c.missing c)
      of false = ap (Seeing (block_in link)) (fun_ext (λ value. ap Now (went_further stands_for c (table_seen link value))))
  next_on c _ = refl

  dropped_on : (c : KeyCall K V Q) (end : End) (out : Out (Node K V)) → dropped (It c) end out ≡ ThenOn (dropped c end out)
  dropped_on c end (Taken node) = refl
  dropped_on c end _ = refl

  key_on : (loaded : Bool) (c : KeyCall K V Q) (word : ℕ) (key : Option K) → key_read eq eq loaded (It c) word key ≡ ThenOn (key_read (asked_as eq stands_for) eq loaded c word key)
  key_on loaded c word (Some key) = ap (Seeing (block_in word)) (fun_ext (λ value. ap Now (told_on stands_for loaded c word (names_pair (eq key) value))))
  key_on loaded c word None =
      ap (Seeing (block_in c.own)) (fun_ext (λ own. ap (Seeing (block_in word)) (fun_ext (λ value. ap Now (told_on stands_for loaded c word (have_one_key eq own value))))))

  pair_on : (loaded : Bool) (c : KeyCall K V Q) (word : ℕ) (asked : Option Q) → pair_read eq eq loaded (It c) word (option_map stands_for asked) ≡ ThenOn (pair_read (asked_as eq stands_for) eq loaded c word asked)
  pair_on loaded c word (Some asked) = ap (Seeing (block_in word)) (fun_ext (λ value. ap Now (told_on stands_for loaded c word (names_pair (asked_as eq stands_for asked) value))))
  pair_on loaded c word None = key_on loaded c word c.replies.key

  word_on : (loaded : Bool) (c : KeyCall K V Q) (word : ℕ) → word_read eq eq loaded (It c) word ≡ ThenOn (word_read (asked_as eq stands_for) eq loaded c word)
  word_on loaded c word = of (may_name c.hash word)
    where
      of : (b : Bool) → (if b then pair_read eq eq loaded (It c) word (option_map stands_for c.asked) else Now (told loaded (It c) word false))
          ≡ ThenOn (if b then pair_read (asked_as eq stands_for) eq loaded c word c.asked else Now (told loaded c word false))
      of true = pair_on loaded c word c.asked
      of false = ap Now (told_on stands_for loaded c word false)

  found_on : (c : KeyCall K V Q) (out : Out (Node K V)) → word_found eq eq (It c) out ≡ ThenOn (word_found (asked_as eq stands_for) eq c out)
  found_on c (Found word) = word_on true c word
  found_on c _ = refl

  tried_on : (c : KeyCall K V Q) (word new : ℕ) (out : Out (Node K V)) → tried eq eq (It c) word new out ≡ ThenOn (tried (asked_as eq stands_for) eq c word new out)
  tried_on c word new (Exchanged (Ok found)) = ap Now (changed_on stands_for c word new)
  tried_on c word new (Exchanged (Err found)) = word_on false c found
  tried_on c word new _ = refl

  looked_on : (c : KeyCall K V Q) (end : Lookup × Advance (Option ℕ)) → looked (It c) end ≡ On (looked c end)
  looked_on c (lookup, progress.Goes) = refl
  looked_on c (lookup, progress.Waits) = refl
  looked_on c (lookup, progress.Done (Some found)) = refl
  looked_on c (lookup, progress.Done None) = refl
  looked_on c (lookup, progress.Refused fault) = refl

  looks_on : (c : KeyCall K V Q) (lookup : Lookup) (asked : Option Q) → looks_for eq (It c) lookup (option_map stands_for asked) ≡ PlanOn (looks_for (asked_as eq stands_for) c lookup asked)
  looks_on c lookup (Some asked) = plan_through (looked (It c)) On (looked c) (looked_on c) (lookup_plan (asked_as eq stands_for asked) lookup)
  looks_on c lookup None = refl

  first_on : (c : KeyCall K V Q) (end : NewTable × Advance Table) → first_made (It c) end ≡ On (first_made c end)
  first_on c (making, progress.Goes) = refl
  first_on c (making, progress.Waits) = refl
  first_on c (making, progress.Done table) = refl
  first_on c (making, progress.Refused fault) = ending_on stands_for c (ends.Refused fault)

  next_made_on : (c : KeyCall K V Q) (end : NewTable × Advance Table) → next_made (It c) end ≡ On (next_made c end)
  next_made_on c (making, progress.Goes) = refl
  next_made_on c (making, progress.Waits) = refl
  next_made_on c (making, progress.Done table) = went_further stands_for c table
  next_made_on c (making, progress.Refused fault) = ending_on stands_for c (ends.Refused fault)

  disposed_on : (c : KeyCall K V Q) (answer : KeyAnswer) (end : Dispose × Settled (Node K V)) → disposed (It c) answer end ≡ On (disposed c answer end)
  disposed_on c answer (dispose, settling.Goes) = refl
  disposed_on c answer (dispose, settling.Waits) = refl
  disposed_on c answer (dispose, settling.Gave value) = refl
  disposed_on c answer (dispose, settling.Done) = refl

  helped_on : (c : KeyCall K V Q) (goal : Table) (end : Copier × Yielding (Node K V) Table) → helped (It c) goal end ≡ On (helped c goal end)
  helped_on c goal (copier, outcome.Goes) = refl
  helped_on c goal (copier, outcome.Waits) = refl
  helped_on c goal (copier, outcome.Gave value) = refl
  helped_on c goal (copier, outcome.Done table) = refl
  helped_on c goal (copier, outcome.Refused fault) = ending_on stands_for c (ends.Refused fault)

  copied_on : (c : KeyCall K V Q) (end : Copier × Yielding (Node K V) Table) → copied (It c) end ≡ On (copied c end)
  copied_on c (copier, outcome.Goes) = refl
  copied_on c (copier, outcome.Waits) = refl
  copied_on c (copier, outcome.Gave value) = refl
  copied_on c (copier, outcome.Done table) = refl
  copied_on c (copier, outcome.Refused fault) = ending_on stands_for c (ends.Refused fault)

  filled_on : (c : KeyCall K V Q) (word : ℕ) (out : Out (Node K V)) → filled (It c) word out ≡ ThenOn (filled c word out)
  filled_on c word (Made (Ok block)) = refl
  filled_on c word (Made (Err node)) = refl
  filled_on c word (Taken node) = refl
  filled_on c word _ = refl

  putting_on : (b : Bool) (c : KeyCall K V Q) (word : ℕ) (key : K) (value : V) → putting_by b (It c) word key value ≡ PlanOn (putting_by b c word key value)
  putting_on true c word key value = ap (Do (Make (nodes.Pair key value) 0)) (fun_ext (filled_on c word))
  putting_on false c word key value = ap (Do (Rewrite (block_in c.own) (nodes.Pair key value))) (fun_ext (filled_on c word))

  fill_on : (value : Option V) (c : KeyCall K V Q) (word : ℕ) (key : K) → fill_by value (It c) word key ≡ PlanOn (fill_by value c word key)
  fill_on (Some value) c word key = putting_on (c.own == 0) (record c { replies = record c.replies { key = None } }) word key value
  fill_on None c word key = refl

  emptied_on : (c : KeyCall K V Q) (word : ℕ) (out : Out (Node K V)) → emptied (It c) word out ≡ ThenOn (emptied c word out)
  emptied_on c word (Taken (nodes.Pair key value)) = refl
  emptied_on c word (Taken _) = refl
  emptied_on c word _ = refl

  fills_on : (key : Option K) (c : KeyCall K V Q) (word : ℕ) → fills_with key (It c) word ≡ PlanOn (fills_with key c word)
  fills_on (Some key) c word = fill_on (value_for c.replies word) (record c { replies = as_own c.replies word }) word key
  fills_on None c word = ap (Do (Rewrite (block_in c.own) vacant)) (fun_ext (emptied_on c word))

  given_on : (c : KeyCall K V Q) (word : ℕ) (out : Out (Node K V)) → given_up (It c) word out ≡ ThenOn (given_up c word out)
  given_on c word (Taken (nodes.Pair key value)) = refl
  given_on c word (Taken _) = refl
  given_on c word _ = refl

  asks_on : (c : KeyCall K V Q) (p : Asking) → asks_at (It c) p ≡ PlanOn (asks_at c p)
  asks_on c (asking.Absent gap) = refl
  asks_on c (asking.Present word) = refl
  asks_on c (asking.Fills word) = fills_on c.replies.key c word
  asks_on c (asking.GivesUp word) = ap (Do (Take (block_in c.own))) (fun_ext (given_on c word))

  -- each point
  at_on : (hash : K → ℕ) (c : KeyCall K V Q) (p : Calling) → plan_at eq eq hash (It c) p ≡ PlanOn (plan_at (asked_as eq stands_for) eq hash c p)
  at_on hash c at.Makes = makes_on c c.unmade
  at_on hash c (at.Looks lookup) = looks_on c lookup c.asked
  at_on hash c at.Roots = ap (Do (Load (Root c.setting.root))) (fun_ext (root_on c))
  at_on hash c at.Probes = ap (Do (Load (place_tried c.trial))) (fun_ext (found_on c))
  at_on hash c (at.Tries word new) = ap (Do (Exchange (place_tried c.trial) word new)) (fun_ext (tried_on c word new))
  at_on hash c (at.Counts removed) =
      ap (Do (Add (Word c.setting.counter (bit_and c.setting.slot c.setting.mask)) (count_change removed))) (fun_ext (λ out. ap Now (counted_on stands_for c removed)))
  at_on hash c at.Nexts = ap (Do (Load (at_word c.trial.table NEXT))) (fun_ext (next_on c))
  at_on hash c (at.Firsts making) = plan_through (first_made (It c)) On (first_made c) (first_on c) (new_table_plan making)
  at_on hash c (at.Allocs making) = plan_through (next_made (It c)) On (next_made c) (next_made_on c) (new_table_plan making)
  at_on hash c (at.Helps copier goal) = plan_through (helped (It c) goal) On (helped c goal) (helped_on c goal) (copier_plan hash copier)
  at_on hash c (at.Copies copier) = plan_through (copied (It c)) On (copied c) (copied_on c) (copier_plan hash copier)
  at_on hash c (at.Asks p) = asks_on c p
  at_on hash c (at.Disposes dispose answer) = plan_through (disposed (It c) answer) On (disposed c answer) (disposed_on c answer) (dispose_plan dispose)
  at_on hash c (at.Drops end) = ap (Do (Take (block_in c.own))) (fun_ext (dropped_on c end))
  at_on hash c (at.Over end) = refl

  -- whichever machine it is
  machine_on : (hash : K → ℕ) (machine : Machine K V Q)
      → machine_plan eq eq hash (by_key stands_for machine) ≡ plan_as (end_by_key stands_for) (machine_plan (asked_as eq stands_for) eq hash machine)
  machine_on hash (kinds.Key c) =
      ap (plan_as called) (at_on hash c c.stands) ∙ sym (plan_through (λ end. called (On end)) called On (λ end. refl) (call_plan (asked_as eq stands_for) eq hash c))
      ∙ plan_through (λ end. called (On end)) (end_by_key stands_for) called (λ end. refl) (call_plan (asked_as eq stands_for) eq hash c)
  machine_on hash (kinds.Reserve c) = plan_through reserved (end_by_key stands_for) reserved (λ end. refl) (reserve_plan hash c)
  machine_on hash (kinds.Sweep c) = plan_through swept (end_by_key stands_for) swept (λ end. refl) (sweep_plan hash c)
  machine_on hash (kinds.Count c) = plan_through sum_counted (end_by_key stands_for) sum_counted (λ end. refl) (sum_plan c)

pub steps_by_key : {K Q : Type 0} (V : Type 0) (same : K → K → Bool) (asks : Q → K → Bool) (stands_for : Q → K) → StepsByKey V same asks stands_for
steps_by_key {K} {Q} V same asks stands_for is hash machine =
    subst (λ (a : Q → K → Bool). machine_plan same same hash (by_key stands_for machine) ≡ plan_as (end_by_key stands_for) (machine_plan a same hash machine))
    (fun_ext (λ asked. fun_ext (λ key. sym (is asked key)))) (machine_on same stands_for hash machine)

pub replies_by_key : {K Q : Type 0} (V : Type 0) (stands_for : Q → K) → RepliesByKey V stands_for
replies_by_key V stands_for (kinds.Key c) = ((λ told. ap (λ x. (kinds.Key x.0, x.1)) (replied_on stands_for c.stands c told)), refl)
replies_by_key V stands_for (kinds.Reserve c) = ((λ told. refl), refl)
replies_by_key V stands_for (kinds.Sweep c) = ((λ told. refl), refl)
replies_by_key V stands_for (kinds.Count c) = ((λ told. refl), refl)
