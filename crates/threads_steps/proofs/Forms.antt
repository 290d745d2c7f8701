-- Calls by a form of a key. A lookup asks of each key whether that equals the one for which the form stands, so its steps are those of the lookup by that one; and so it is with any call.
use Rattle.std.specs.Prelude.{Option, Some, None, Result, option_map}
use Rattle.std.proofs.Common.{◌≡◌, ℕ, Bool, refl, subst, sym, ap, ◌∙◌}
use Rattle.std.proofs.Math.Path.{fun_ext}
use Rattle.seize_words.specs.OneMemory.Op.{Op, Out}
use Rattle.seize_words.specs.OneMemory.Plan.{Plan, May, Steps}
use Rattle.seize_words.proofs.OneMemory.Plans.{as_may, may_as, steps_as as steps_as_it}
use Rattle.seize.specs.declared.advance.Advance.{Advance}
use Rattle.map_tables.specs.declared.node.Node.{Node}
use Rattle.map_tables.specs.declared.resize_mode.ResizeMode.{ResizeMode}
use Rattle.map_machines.specs.Lookup.{lookup_plan, looking}
use Rattle.map_machines.specs.declared.lookup.Lookup.{Lookup}
use Rattle.papaya_raw.specs.Call.{call_plan}
use Rattle.papaya_raw.specs.Machine.{machine_plan, machine_replied, called as as_machine}
use Rattle.papaya_raw.specs.Progress.{of_called}
use Rattle.papaya_raw.specs.declared.machines.answer.Called.{Called}
use Rattle.papaya_raw.specs.declared.machines.answer.Called.TheVariants as tells
use Rattle.papaya_raw.specs.declared.machines.asking.MachineReply.{MachineReply}
use Rattle.papaya_raw.specs.declared.machines.call.KeyCall.{KeyCall}
use Rattle.papaya_raw.specs.declared.machines.machine.Machine.{Machine}
use Rattle.papaya_raw.specs.declared.machines.machine.Machine.TheVariants as kinds
use Rattle.papaya_raw.specs.declared.machines.progress.Answer.TheVariants.{Key as OfKey}
use Rattle.papaya_raw.specs.declared.machines.progress.Progress.{Progress}
use Rattle.papaya_raw.specs.declared.machines.progress.Progress.TheVariants as progress
use Rattle.seize_straight.specs.Reaches.{Told}
use Rattle.seize_straight.specs.Runs.{none_taken, one_more}
use Rattle.seize_straight.proofs.Running.{by_law, may_step, runs_on}
use Rattle.map_measures.specs.ByKey.ByKey.{by_key, end_by_key, key_call}
use Rattle.map_measures.proofs.ByKey.Plans.{replies_by_key, steps_by_key}
use Rattle.map_straight.specs.Straight.Going.{CallGoes, CallLeads, CallReaches, LookReaches, MayCall, MayLook}
use Rattle.map_straight.specs.Straight.Looking.{sight_at}
use Rattle.map_straight.specs.declared.looking.Sight.{Sight}
use Rattle.threads_rule.specs.Errands.Looking.{HasCome, HasProgressed, LookedSo, LooksFor, StaysThere, progress_of_lookup}
use Rattle.threads_steps.specs.Made.{CanMake, HasMade, IsSameSeat, shown_of}
use Rattle.threads_steps.specs.declared.within.Within.{Within}
use Rattle.threads_steps.proofs.Handing.{steps_as}
use Rattle.threads_steps.proofs.Lookups.{may_look, has_looked}
use Rattle.threads_steps.proofs.Straight.{has_come, may_run}

its_keys : {K : Type 0} (same : K → K → Bool) (key : K) (asks : K → Bool) → ((found : K) → asks found ≡ same key found) → same key ≡ asks
its_keys same key asks stands = fun_ext (λ found. sym (stands found))

module _ {K V S : Type 0} (same : K → K → Bool) (hash : S → K → ℕ) (key : K) (asks : K → Bool) (stands : (found : K) → asks found ≡ same key found) where
  -- a step may be taken, and comes to what the seat knows then
  pub may_look_by : (c : Within K V S) (lookup : Lookup) → LooksFor key lookup c.seat.now.view → May (CanMake same hash) (HasMade same hash) shown_of c (lookup_plan asks lookup)
  may_look_by c lookup is = subst (λ (keys : K → Bool). May (CanMake same hash) (HasMade same hash) shown_of c (lookup_plan keys lookup)) (its_keys same key asks stands) (may_look same hash c key lookup is)

  pub has_looked_by : (c : Within K V S) (lookup : Lookup) → LooksFor key lookup c.seat.now.view → (n : Within K V S) (end : Lookup × Advance (Option ℕ))
      → Steps (HasMade same hash) shown_of c (lookup_plan asks lookup) n end
      → LookedSo same key end.0 end.1 n.seat.now.view × StaysThere c.seat.now.view n.seat.now.view × IsSameSeat c n × HasProgressed (progress_of_lookup end.1) c.seat.now.view n.seat.now.view
  has_looked_by c lookup is n end st =
      has_looked same hash c key lookup is n end (subst (λ (keys : K → Bool). Steps (HasMade same hash) shown_of c (lookup_plan keys lookup) n end) (sym (its_keys same key asks stands)) st)

  -- and so of straight code
  pub may_run_by : (lookup : Lookup) (c : Within K V S) → LooksFor key lookup c.seat.now.view → MayLook asks (HasMade same hash) shown_of (CanMake same hash) lookup c
  may_run_by lookup c is = subst (λ (keys : K → Bool). MayLook keys (HasMade same hash) shown_of (CanMake same hash) lookup c) (its_keys same key asks stands) (may_run same hash key lookup c is)

  pub has_come_by : (root : ℕ) (mode : ResizeMode) (hashed : ℕ) (sight : Sight) (m n : Within K V S)
      → LookReaches asks (HasMade same hash) shown_of (looking root mode hashed) m n (sight_at root mode hashed sight) → LooksFor key (looking root mode hashed) m.seat.now.view
      → HasCome same key root mode hashed sight m.seat.now.view n.seat.now.view × StaysThere m.seat.now.view n.seat.now.view × IsSameSeat m n
  has_come_by root mode hashed sight m n reaches is =
      has_come same hash key root mode hashed sight m n
      (subst (λ (keys : K → Bool). LookReaches keys (HasMade same hash) shown_of (looking root mode hashed) m n (sight_at root mode hashed sight)) (sym (its_keys same key asks stands)) reaches) is

-- What is asked with keys as they are is the call itself.
asked_as_it_is : {K : Type 0} (asked : Option K) → option_map (λ (key : K). key) asked ≡ asked
asked_as_it_is (Some key) = refl
asked_as_it_is None = refl

pub by_key_of_keys : {K V : Type 0} (machine : Machine K V K) → by_key (λ (key : K). key) machine ≡ machine
by_key_of_keys {K} (kinds.Key c) = ap (λ (asked : Option K). kinds.Key (record c { asked = asked })) (asked_as_it_is c.asked)
by_key_of_keys (kinds.Reserve r) = refl
by_key_of_keys (kinds.Sweep r) = refl
by_key_of_keys (kinds.Count r) = refl

-- what a call by a form is told, the call by the key is told
pub replied_by : {K V Q : Type 0} (stands_for : Q → K) (machine next : Machine K V Q) (told : MachineReply V) (back : Result Unit (MachineReply V)) → (next, back) ≡ machine_replied machine told
    → (by_key stands_for next, back) ≡ machine_replied (by_key stands_for machine) told
replied_by {K} {V} {Q} stands_for machine next told back is =
    ap (λ (x : Machine K V Q × Result Unit (MachineReply V)). (by_key stands_for x.0, x.1)) is ∙ sym ((replies_by_key V stands_for machine).0 told)

-- what a call on one key tells, by what its machine tells
abbrev told_by : {T : Type 0} → Progress T → Called T
told_by progress.Goes = tells.Goes
told_by (progress.Gave value) = tells.Gave value
told_by (progress.Unstored value) = tells.Unstored value
told_by (progress.Asks pair) = tells.Asks pair
told_by (progress.Done (OfKey answer)) = tells.Done answer
told_by (progress.Refused fault) = tells.Refused fault
told_by told = tells.Waits

told_back : {T : Type 0} (told : Called T) → told_by (of_called told) ≡ told
told_back tells.Goes = refl
told_back tells.Waits = refl
told_back (tells.Gave value) = refl
told_back (tells.Unstored value) = refl
told_back (tells.Asks pair) = refl
told_back (tells.Done answer) = refl
told_back (tells.Refused fault) = refl

abbrev call_of : {K V : Type 0} → KeyCall K V K → Machine K V K → KeyCall K V K
call_of call (kinds.Key c) = c
call_of call machine = call

same_end : {K V : Type 0} (call : KeyCall K V K) (told : Called (Node K V)) (end : KeyCall K V K × Called (Node K V)) → (kinds.Key call, of_called told) ≡ as_machine end → (call, told) ≡ end
same_end {K} {V} call told end is =
    ap (λ (e : Machine K V K × Progress (Node K V)). (call_of call e.0, told)) is
    ∙ ap (λ (t : Called (Node K V)). (end.0, t)) (sym (told_back told) ∙ ap (λ (e : Machine K V K × Progress (Node K V)). told_by e.1) is ∙ told_back end.1)

module _ {K V Q M : Type 0} (can : M → Op (Node K V) → Type 0) (took : M → Op (Node K V) → Out (Node K V) → M → Type 0) (shown : M → ℕ → Option (Node K V))
    (same : K → K → Bool) (asks : Q → K → Bool) (stands_for : Q → K) (stands : (asked : Q) (key : K) → asks asked key ≡ same (stands_for asked) key) (hashes : K → ℕ) where
  -- a step of a call by a form may be taken where that of the call by the key may, and is that step
  pub may_step_by : (m : M) (machine : Machine K V Q) → May can took shown m (machine_plan same same hashes (by_key stands_for machine)) → May can took shown m (machine_plan asks same hashes machine)
  may_step_by m machine may =
      may_as (end_by_key stands_for) can took shown m (machine_plan asks same hashes machine)
      (subst (λ (p : Plan (Node K V) (Machine K V K × Progress (Node K V))). May can took shown m p) (steps_by_key V same asks stands_for stands hashes machine) may)

  pub stepped_by : (m n : M) (machine next : Machine K V Q) (told : Progress (Node K V)) → Steps took shown m (machine_plan asks same hashes machine) n (next, told)
      → Steps took shown m (machine_plan same same hashes (by_key stands_for machine)) n (by_key stands_for next, told)
  stepped_by m n machine next told st =
      subst (λ (p : Plan (Node K V) (Machine K V K × Progress (Node K V))). Steps took shown m p n (by_key stands_for next, told)) (sym (steps_by_key V same asks stands_for stands hashes machine))
      (steps_as_it (end_by_key stands_for) can took shown m n (machine_plan asks same hashes machine) (next, told) st)

  -- and so where it is no machine
  may_call_by : (m : M) (x : KeyCall K V Q) → May can took shown m (call_plan same same hashes (key_call stands_for x)) → May can took shown m (call_plan asks same hashes x)
  may_call_by m x may =
      may_as as_machine can took shown m (call_plan asks same hashes x)
      (may_step_by m (kinds.Key x) (as_may as_machine can took shown m (call_plan same same hashes (key_call stands_for x)) may))

  called_by : (m n : M) (x y : KeyCall K V Q) (told : Called (Node K V)) → Steps took shown m (call_plan asks same hashes x) n (y, told)
      → Steps took shown m (call_plan same same hashes (key_call stands_for x)) n (key_call stands_for y, told)
  called_by m n x y told st =
      let plan = call_plan same same hashes (key_call stands_for x) in
      let k = steps_as as_machine took shown m n plan (kinds.Key (key_call stands_for y), of_called told)
      (stepped_by m n (kinds.Key x) (kinds.Key y) (of_called told) (steps_as_it as_machine can took shown m n (call_plan asks same hashes x) (y, told) st)) in
      subst (λ (e : KeyCall K V K × Called (Node K V)). Steps took shown m plan n e) (sym (same_end (key_call stands_for y) told k.0 k.2)) k.1

  -- so straight code may be run where it may for the call by the key, and comes to what that comes to
  pub call_may_run_by : (x : KeyCall K V Q) (m : M) → MayCall same same hashes took shown can (key_call stands_for x) m → MayCall asks same hashes took shown can x m
  call_may_run_by =
      by_law (CallGoes {T = Node K V}) took shown (call_plan asks same hashes) can (λ x m. MayCall same same hashes took shown can (key_call stands_for x) m)
      (λ x m h. may_call_by m x (may_step (CallGoes {T = Node K V}) took shown (call_plan same same hashes) can (key_call stands_for x) m h))
      (λ x m h n y told on st. runs_on (CallGoes {T = Node K V}) took shown (call_plan same same hashes) can (key_call stands_for x) m h n (key_call stands_for y) told on (called_by m n x y told st))

  pub call_leads_by : (x y : KeyCall K V Q) (m n : M) → CallLeads asks same hashes took shown x m y n → CallLeads same same hashes took shown (key_call stands_for x) m (key_call stands_for y) n
  call_leads_by x y m n (none_taken _ _) = none_taken (key_call stands_for x) m
  call_leads_by x y m n (one_more _ _ z k l told on _ _ st) =
      one_more (key_call stands_for x) m (key_call stands_for z) k (call_leads_by x z m k l) told on (key_call stands_for y) n (called_by k n z y told st)

  pub call_tells_by : (x : KeyCall K V Q) (m n : M) (told : Called (Node K V)) → CallReaches asks same hashes took shown x m n (Told told) → CallReaches same same hashes took shown (key_call stands_for x) m n (Told told)
  call_tells_by x m n told (y, k, z, l, st, not) = (key_call stands_for y, k, key_call stands_for z, call_leads_by x y m k l, called_by k n y z told st, not)
