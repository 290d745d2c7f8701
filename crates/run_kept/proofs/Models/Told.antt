-- What is told of a step of a row within a call: it hands over what it writes a batch into, and nothing where it writes no such word.
use Rattle.std.specs.Prelude.{◌&&◌, ◌==◌, ◌%◌, ◌^◌, Option, Some, None, Ok, Err, IsSome, if◌then◌else◌, nat_lt}
use Rattle.std.proofs.Common.{◌≡◌, ℕ, ◌+◌, Bool, true, false, List, [], ◌∷◌, inl, inr, refl, ap, sym, subst, arith, ◌∙◌}
use Rattle.std.proofs.lemmas.Bool.{eq-eqb}
use Rattle.run_schedules.specs.Given.SeizeWordsDeclared.at.At.{At}
use Rattle.run_schedules.specs.Given.SeizeWordsDeclared.at.At.TheVariants.{Root, Used, Slot, Entry, Word}
use Rattle.run_schedules.specs.Given.SeizeWordsMem.{Mem, same_at, block_of, value_in, value_at, word_at, with_block, with_room, with_word, fresh, Can, Took}
use Rattle.run_schedules.specs.Given.SeizeWordsOp.{Op, Out, Load, Store, Swap, Add, Or, Exchange, Make, Take, Rewrite, Room, Found, Exchanged, Made, Taken, Roomed}
use Rattle.run_schedules.specs.Given.SeizeWordsWord.{link_to}
use Rattle.run_schedules.proofs.Given.SeizeWordsOneOwner.AfterWrites.{word_at-with_word, word_at-with_value, value_at-with_word, block_of-with_block, block_of-made}
use Rattle.seize.specs.declared.states.TheConstants.{FIRST}
use Rattle.run_executor.proofs.Given.SeizeMemoryWords.Named.{same_at-true, block_there}
use Rattle.run_executor.proofs.Given.SeizeRulePoints.Retire.{of_link}
use Rattle.run_executor.proofs.Given.HandsHanding.{IsHanding}
use Rattle.papaya_raw.specs.Given.TablesDeclared.table_words.TheConstants.{DEFERRED}
use Rattle.papaya_raw.specs.Given.TablesDeclared.node.Node.{Node}
use Rattle.run_executor.specs.Given.TellsSeen.{seen_of, word_or}
use Rattle.run_executor.specs.Given.TellerTells.{observed_of}
use Rattle.run_executor.specs.Given.EffectsDeclared.changed.Changed.{Changed}
use Rattle.run_executor.specs.Given.EffectsDeclared.changed.Changed.TheVariants as changed
use Rattle.run_executor.specs.Given.EffectsDeclared.changed.Kind.{Kind}
use Rattle.run_executor.specs.Given.EffectsDeclared.changed.Kind.TheVariants as kind
use Rattle.run_schedules.specs.declared.effect.Effect.{Effect}
use Rattle.run_schedules.specs.declared.effect.Effect.TheVariants as effect
use Rattle.run_schedules.specs.declared.effect.Growth.TheVariants.{ABucket, ABlock}
use Rattle.run_schedules.specs.declared.effect.TableId.{TableId}
use Rattle.run_schedules.specs.declared.effect.Thing.{Thing}
use Rattle.run_schedules.specs.declared.effect.Thing.TheVariants.{APair, ATable}
use Rattle.run_executor.specs.Given.EffectsEffects.{names_same, named, led_to, in_block, batched, made_by, taken_by, effects_of, known_after}
use Rattle.run_executor.specs.Given.EffectsKnown.{Known, with_role}
use Rattle.run_executor.specs.Given.EffectsDeclared.acting.Acting.{Acting}
use Rattle.run_executor.specs.Given.EffectsDeclared.acting.Acting.TheVariants.{Call}
use Rattle.run_executor.specs.Given.EffectsDeclared.role.Role.{Role}
use Rattle.run_executor.specs.Given.EffectsDeclared.role.Role.TheVariants as role
use Rattle.run_executor.proofs.Given.FollowsOfEach.{OfEach, led_so, operation_so}
use Rattle.run_executor.proofs.Given.FollowsOnward.{IsLasting, IsOfMap, KeepsRoles}
use Rattle.run_executor.proofs.Given.FollowsOperations.{Operated}
use Rattle.run_blocks.specs.Given.PromisesSheltered.{IsOfThing}
use Rattle.run_kept.specs.Models.Numbers.{NoneBack}
use Rattle.run_executor.proofs.Given.SpotsHanding.{AllKeep}
use Rattle.run_executor.proofs.Given.FollowsQuiet.{same_name as same_names}

module _ (i map : ℕ) (known : Known) where
  abbrev its : Acting
  its = Call i map

  led_keeps : (q : Bool) (was is : Role) → AllKeep (if q then [] else led_to its was is)
  led_keeps true was is = tt
  led_keeps false was (role.OwnTable turn shape) = (tt, tt)
  led_keeps false (role.Table t len) (role.Table u other) = (tt, tt)
  led_keeps false _ _ = tt

  other_keeps : (field : ℕ) (x : List Effect) → (field == FIRST) ≡ false → AllKeep (if field == FIRST then x else [])
  other_keeps field x e = subst (λ (q : Bool). AllKeep (if q then x else [])) (sym e) tt

  batched_keeps : (field : ℕ) (r : Role) → (field == FIRST) ≡ false → AllKeep (batched its field r)
  batched_keeps field role.Free e = tt
  batched_keeps field (role.OwnPair c) e = tt
  batched_keeps field (role.OwnTable turn shape) e = tt
  batched_keeps field (role.Pair n) e = other_keeps field (effect.Retired (APair n) ∷ []) e
  batched_keeps field (role.Table t len) e = other_keeps field (effect.Retired (ATable t) ∷ []) e
  batched_keeps field (role.Counter of) e = tt

  same_keeps : (r : Role) (field stored : ℕ) (was is : Role) → AllKeep (in_block its r field stored true was is)
  same_keeps role.Free field stored was is = tt
  same_keeps (role.OwnPair c) field stored was is = tt
  same_keeps (role.OwnTable turn shape) field stored was is = tt
  same_keeps (role.Pair n) field stored was is = tt
  same_keeps (role.Table t len) field stored was is = tt
  same_keeps (role.Counter of) field stored was is = (tt, tt)

  made_keeps : (k : Kind) → AllKeep (effect.Asked ABlock ∷ made_by its k)
  made_keeps kind.Pair = (tt, (tt, tt))
  made_keeps (kind.Table len limit turn) = (tt, (tt, tt))
  made_keeps kind.Shards = (tt, tt)

  taken_keeps : (r : Role) → AllKeep (taken_by its r)
  taken_keeps role.Free = tt
  taken_keeps (role.OwnPair c) = (tt, tt)
  taken_keeps (role.OwnTable turn shape) = (tt, tt)
  taken_keeps (role.Pair n) = (tt, tt)
  taken_keeps (role.Table t len) = (tt, tt)
  taken_keeps (role.Counter of) = tt

  entry_keeps : (b field old new : ℕ) → (field ≡ FIRST → new ≡ old) → (q : Bool) → names_same old new ≡ q → AllKeep (if q then [] else batched its field (known.roles b))
  entry_keeps b field old new same true e = tt
  entry_keeps b field old new same false e = by (field == FIRST) refl
    where
      by : (q : Bool) → (field == FIRST) ≡ q → AllKeep (batched its field (known.roles b))
      by false other = batched_keeps field (known.roles b) other
      by true first = absurd (let names = same_names old new (same (grind (arith, first))) in cc (names, e))

  -- where no word is written anew with which something is handed over, nothing is
  pub quiet_keeps : (told : Changed) → ((x : At) → IsHanding x → (old new : ℕ) → told ≡ changed.Wrote x old new → new ≡ old) → AllKeep (effects_of its known told)
  quiet_keeps changed.Nothing same = tt
  quiet_keeps (changed.Wrote (Root r) old new) same = led_keeps (names_same old new) (named known old) (named known new)
  quiet_keeps (changed.Wrote (Used r) old new) same = tt
  quiet_keeps (changed.Wrote (Slot t field) old new) same = tt
  quiet_keeps (changed.Wrote (Entry b field) old new) same = entry_keeps b field old new (λ e. same (Entry b field) e old new refl) (names_same old new) refl
  quiet_keeps (changed.Wrote (Word b field) old new) same =
      subst (λ (q : Bool). AllKeep (in_block its (known.roles b) field known.stored q (named known old) (named known new))) (sym (same_names old new (same (Word b field) tt old new refl)))
      (same_keeps (known.roles b) field known.stored (named known old) (named known new))
  quiet_keeps (changed.Made k b) same = made_keeps k
  quiet_keeps (changed.Unmade k) same = (tt, tt)
  quiet_keeps (changed.Took b) same = taken_keeps (known.roles b)
  quiet_keeps (changed.Roomed bucket had) same = by (had && nat_lt bucket known.buckets)
    where
      by : (q : Bool) → AllKeep (if q then [] else effect.Asked ABucket ∷ [])
      by true = tt
      by false = (tt, tt)

  -- A step of a call reclaims nothing that was handed over, where pairs and tables keep their blocks.

  each_back : OfEach its known NoneBack
  each_back = record {
    nothing = tt;
    linked = λ turn shape. (tt, tt);
    deferred = λ n t. (tt, tt);
    stored = λ s. (tt, tt);
    replaced = λ old s. (tt, (tt, tt));
    removed = λ n. (tt, tt);
    copied = λ n s. (tt, tt);
    retired = λ x. (tt, tt);
    asked = (tt, tt);
    pair_made = (tt, (tt, tt));
    table_made = λ turn. (tt, (tt, tt));
    pair_given_up = (tt, tt);
    table_given_up = λ turn. (tt, tt);
  }

  pub none_back : (told : Changed) → KeepsRoles known (known_after its told known) → NoneBack (effects_of its known told)
  none_back told keeps =
      operation_so its known NoneBack each_back told (λ r old new e. led_so its known NoneBack each_back (λ t. (tt, tt)) (named known old) (named known new)) (λ b field old new of e is. (tt, tt))
      (λ b e of_map. absurd (never (known.roles b) of_map (λ lasting. freed b ∙ (subst (λ (c : Changed). KeepsRoles known (known_after its c known)) e keeps b lasting)))) (λ bucket had e. (tt, tt))
    where
      freed : (b : ℕ) → role.Free ≡ (with_role b role.Free known).roles b
      freed b = sym (ap (λ (q : Bool). if q then role.Free else known.roles b) (eq-eqb b b refl))

      never : (r : Role) → IsOfMap r → (IsLasting r → role.Free ≡ r) → ⊥
      never (role.Pair n) of gone = let e = gone tt in cc e
      never (role.Table t len) of gone = let e = gone tt in cc e
      never role.Free of gone = of
      never (role.OwnPair c) of gone = of
      never (role.OwnTable turn shape) of gone = of
      never (role.Counter m) of gone = of

  -- where it is written into a thing which batch that is of, the thing is retired
  pub first_retires : (b old new : ℕ) (x : Thing) → IsOfThing x (known.roles b) → names_same old new ≡ false → effects_of its known (changed.Wrote (Entry b FIRST) old new) ≡ effect.Retired x ∷ []
  first_retires b old new x of e = ap (λ (q : Bool). if q then [] else batched its FIRST (known.roles b)) e ∙ by x of
    where
      by : (x : Thing) → IsOfThing x (known.roles b) → batched its FIRST (known.roles b) ≡ effect.Retired x ∷ []
      by (APair n) of = ap (λ (r : Role). batched its FIRST r) of
      by (ATable t) of = ap (λ (r : Role). batched its FIRST r) of.1

  -- where a pair is put in front of what a table carries, it is deferred behind that
  pub word_defers : (b t old n len : ℕ) (table : TableId) → known.roles b ≡ role.Pair n → known.roles t ≡ role.Table table len → names_same old (link_to b) ≡ false
      → effects_of its known (changed.Wrote (Word t DEFERRED) old (link_to b)) ≡ effect.Deferred n table ∷ []
  word_defers b t old n len table pair is differ =
      ap (λ (r : Role). in_block its r DEFERRED known.stored (names_same old (link_to b)) (named known old) (named known (link_to b))) is
      ∙ ap (λ (q : Bool). in_block its (role.Table table len) DEFERRED known.stored q (named known old) (named known (link_to b))) differ
      ∙ ap (λ (r : Role). in_block its (role.Table table len) DEFERRED known.stored false (named known old) r) (ap known.roles (of_link (link_to b) b refl) ∙ pair)

-- One word was written anew: just that is told.

module _ {K V : Type 0} (m m2 : Mem (Node K V)) (at : At) (same : same_at at at ≡ true) (room : (bucket : ℕ) → word_at (with_room m bucket) at ≡ word_at m at) (old new : ℕ)
    (was : word_at m at ≡ Some old) (is : m2 ≡ with_word m at new) (other : new ≡ old → ⊥) where
  some_word : (o : Option ℕ) → IsSome o → o ≡ Some (word_or o)
  some_word None some = absurd (cc some)
  some_word (Some word) some = refl

  is_some : (x : At) (word : ℕ) → word_at m x ≡ Some word → IsSome (word_at m x)
  is_some x word e = subst (λ (o : Option ℕ). IsSome o) (sym e) refl

  now : word_at m2 at ≡ Some new
  now = ap (λ (k : Mem (Node K V)). word_at k at) is ∙ word_at-with_word m at new at (is_some at old was) ∙ ap (λ (q : Bool). if q then Some new else word_at m at) same

  values : (x : ℕ) → value_at m2 x ≡ value_at m x
  values x = ap (λ (k : Mem (Node K V)). value_at k x) is ∙ value_at-with_word m at new x (is_some at old was)

  changed_word : word_at m2 at ≡ word_at m at → ⊥
  changed_word e = other (let both : Some new ≡ Some old = sym now ∙ e ∙ was in cc both)

  wrote_so : (y : At) (word before : ℕ) → word_at m y ≡ Some before → m2 ≡ with_word m y word → changed.Wrote y before word ≡ changed.Wrote at old new
  wrote_so y word before there e = by (same_at at y) refl (ap (λ (k : Mem (Node K V)). word_at k at) e ∙ word_at-with_word m y word at (is_some y before there))
    where
      by : (q : Bool) → same_at at y ≡ q → word_at m2 at ≡ (if same_at at y then Some word else word_at m at) → changed.Wrote y before word ≡ changed.Wrote at old new
      by true here_too h =
          let here : at ≡ y = same_at-true at y here_too in
          let word_is : Some new ≡ Some word = sym now ∙ h ∙ ap (λ (q : Bool). if q then Some word else word_at m at) here_too in
          let before_is : Some old ≡ Some before = sym was ∙ ap (word_at m) here ∙ there in
          let words : new ≡ word = cc word_is in
          let befores : old ≡ before = cc before_is in
          ap (λ (x : At). changed.Wrote x before word) (sym here) ∙ ap (λ (x : ℕ). changed.Wrote at x word) (sym befores) ∙ ap (λ (x : ℕ). changed.Wrote at old x) (sym words)
      by false elsewhere h = absurd (changed_word (h ∙ ap (λ (q : Bool). if q then Some word else word_at m at) elsewhere))

  unchanged : {X : Type 0} → m2 ≡ m → X
  unchanged e = absurd (changed_word (ap (λ (k : Mem (Node K V)). word_at k at) e))

  -- a block that was made, or taken, would be there, or not
  none_made : (value : Node K V) (words c : ℕ) → Took m (Make value words) (Made (Ok c)) m2 → ⊥
  none_made value words c took =
      let there : value_at m2 c ≡ Some value =
      ap (λ (k : Mem (Node K V)). value_at k c) took.1 ∙ ap value_in (block_of-made m value words c c took.0.0)
      ∙ ap (λ (q : Bool). value_in (if q then Some (fresh value words) else block_of m c)) (eq-eqb c c refl) in
      let none : value_at m c ≡ None = ap value_in took.0.0.0 in
      let still = values c in cc (there, none, still)

  none_taken : (c : ℕ) → IsSome (value_at m c) → m2 ≡ with_block m c None → ⊥
  none_taken c can gone =
      let x = block_there m c can in
      let none : value_at m2 c ≡ None =
      ap (λ (k : Mem (Node K V)). value_at k c) gone ∙ ap value_in (block_of-with_block m c c x.0 None x.1) ∙ ap (λ (q : Bool). value_in (if q then None else block_of m c)) (eq-eqb c c refl) in
      let some : IsSome {T = Node K V} None = subst (λ (o : Option (Node K V)). IsSome o) (sym (values c) ∙ none) can in cc some

  told_so : (op : Op (Node K V)) (out : Out (Node K V)) → Can m op → Took m op out m2 → observed_of op out (seen_of m op out) ≡ changed.Wrote at old new
  told_so (Load y) out can took = unchanged took.1
  told_so (Store y word) out can took = wrote_so y word (word_or (word_at m y)) (some_word (word_at m y) can) took.1
  told_so (Swap y word) (Found before) can took = wrote_so y word before took.0 took.1
  told_so (Add y by) (Found before) can took = wrote_so y ((before + by) % 2 ^ 64) before took.0 took.1
  told_so (Or y bits) (Found before) can took = wrote_so y _ before took.0 took.1
  told_so (Exchange y expected word) (Exchanged (Ok found)) can took = wrote_so y word found took.0.0 took.1
  told_so (Exchange y expected word) (Exchanged (Err found)) can took = unchanged took.1
  told_so (Make value words) (Made (Ok c)) can took = absurd (none_made value words c took)
  told_so (Make value words) (Made (Err back)) can took = unchanged took.1
  told_so (Take c) out can took = absurd (none_taken c can took.1)
  told_so (Rewrite c value) (Taken before) can took = absurd (changed_word (ap (λ (k : Mem (Node K V)). word_at k at) took.1 ∙ word_at-with_value m c value at can))
  told_so (Room bucket) (Roomed (Ok made)) can took = absurd (changed_word (ap (λ (k : Mem (Node K V)). word_at k at) took.1 ∙ room bucket))
  told_so (Room bucket) (Roomed (Err fault)) can took = unchanged took.1
  told_so (Swap y word) _ can took = absurd took.0
  told_so (Add y by) _ can took = absurd took.0
  told_so (Or y bits) _ can took = absurd took.0
  told_so (Exchange y expected word) _ can took = absurd took.0
  told_so (Make value words) _ can took = absurd took.0
  told_so (Rewrite c value) _ can took = absurd took.0
  told_so (Room bucket) _ can took = absurd took.0

  pub is_told : (told : Changed) → Operated m m2 told → told ≡ changed.Wrote at old new
  is_told told (inl (still, nothing)) = unchanged still
  is_told told (inr made) = made.is ∙ told_so made.op made.out made.can made.took
