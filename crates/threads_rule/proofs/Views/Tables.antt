-- The table to which the end of a map has come has its value as long as the end stands there; and a step of an end looks at the one alone to which it comes.
use Rattle.std.specs.Prelude.{◌==◌, ◌&&◌, ◌<◌, ◌++◌, ◌+◌, ◌*◌, ◌%◌, ◌^◌, not, Option, Some, if◌then◌else◌}
use Rattle.std.proofs.Common.{◌≡◌, ℕ, Bool, true, false, List, [], ◌∷◌, inl, inr, refl, sym, subst, ap, ◌∙◌, arith, eqb-true}
use Rattle.seize_words.specs.OneMemory.Mem.{Mem, value_at}
use Rattle.seize_words.specs.OneMemory.Plan.{Then, Now, Seeing, Ends}
use Rattle.seize_words.specs.OneMemory.Word.{block_in}
use Rattle.seize_words.specs.declared.at.At.TheVariants.{Root, Entry, Word}
use Rattle.seize.specs.World.{World, times}
use Rattle.seize.specs.declared.states.TheConstants.{NEXT as NEXT_ENTRY}
use Rattle.seize.specs.declared.rows.settle.Settled.{Settled}
use Rattle.seize.specs.declared.rows.settle.Settled.TheVariants as settled
use Rattle.map_tables.specs.Chunks.{is_incremental}
use Rattle.map_tables.specs.Nodes.{table_seen}
use Rattle.map_tables.specs.declared.node.Node.{Node}
use Rattle.map_tables.specs.declared.node.Node.TheVariants as node
use Rattle.map_tables.specs.declared.table.Table.{Table}
use Rattle.map_tables.specs.declared.table_words.TheConstants.{NEXT, DEFERRED, PLACES}
use Rattle.papaya_raw.specs.EndMap as end_map
use Rattle.papaya_raw.specs.EndMap.{end_map_plan, plan_at}
use Rattle.papaya_raw.specs.declared.machines.end_map.EndMap.{EndMap}
use Rattle.papaya_raw.specs.declared.machines.end_map.Ending.{Ending}
use Rattle.papaya_raw.specs.declared.machines.end_map.Ending.TheVariants as at
use Rattle.many_acts.specs.Given.FinishesEndings.{Finishing, FinishingFacts}
use Rattle.many_acts.specs.Given.FinishesFactsEnds.{EndingFacts, IsAt, back_of, from_table}
use Rattle.many_acts.specs.Looks.Blocks.{MayLookAt}
use Rattle.many_acts.specs.Looks.Sees.{HasSeen}
use Rattle.many_acts.proofs.Given.FinishesEnds.CountedBlocks.{later_apart, some_last}
use Rattle.many_acts.proofs.Given.FinishesEnds.Known.{back_once}
use Rattle.many_acts.proofs.Given.FinishesEnds.OrdersOn.{table_later}
use Rattle.many_acts.proofs.Looks.Sees.Operations.{none_if, loads, takes}
use Rattle.threads_rule.specs.Views.Looks.{shown_in, IsAtTable}
use Rattle.threads_rule.proofs.Views.Looked.{AllLooked}

module _ {K V : Type 0} (same : K → K → Bool) (batch_size : ℕ) (w : World (Node K V)) (i : ℕ) (d : Finishing K V) (facts : FinishingFacts same batch_size w i d) (b : ℕ) where
  abbrev IsAsBegan : ℕ → Type 0
  IsAsBegan a = value_at w.memory a ≡ value_at d.began.memory a

  -- a table that is to be reclaimed
  to_reclaim : (t : ℕ) → IsAt d.setting d.chart d.blocks facts.lists false d.machine t → (rest : List ℕ) → back_of d.setting d.chart d.blocks facts.lists false ≡ d.back ++ rest
      → 0 < times (d.blocks.table t) rest → b ≡ block_in d.machine.table.link → IsAsBegan b
  to_reclaim t its rest is some same_block =
      let link : block_in d.machine.table.link ≡ d.blocks.table t = ap (λ (x : Table). block_in x.link) its.table ∙ its_block (d.blocks.table t) in
      subst IsAsBegan (sym (same_block ∙ link))
      (facts.facts.since.tables t its.from its.made
      (later_apart (d.blocks.table t) (back_of d.setting d.chart d.blocks facts.lists false) d.back rest
      (back_once same d.hash facts.lawful d.setting d.chart d.blocks facts.lists false i d.began facts.stood) is some)).still.value
    where
      its_block : (n : ℕ) → block_in (n * 2048) ≡ n
      its_block n = omega arith

  -- the table to which it has come has the value that it had as the end began
  pub table_stays : IsAtTable d.machine d.machine.stands b → IsAsBegan b
  table_stays here = by d.machine.stands facts.facts.point here
    where
      by : (stands : Ending) → EndingFacts d.setting d.chart d.blocks facts.lists false i d.hash w d.machine facts.past d.back stands → IsAtTable d.machine stands b → IsAsBegan b
      by at.Words (t, its, inside, is) e =
          to_reclaim t its.here _ is
          (some_last (d.blocks.table t) _ (from_table d.setting d.chart d.blocks facts.lists false d.chart.first)
          (table_later d.setting d.chart d.blocks facts.lists false t d.chart.first its.here.from its.here.made)) e
      by at.Carries (its, joined, is) e =
          to_reclaim facts.past its (from_table d.setting d.chart d.blocks facts.lists false facts.past) is
          (table_later d.setting d.chart d.blocks facts.lists false facts.past facts.past (omega arith) its.made) e
      by _ point e = absurd e

-- a table is known by the link that was followed
link_seen : {K V : Type 0} (link : ℕ) (value : Node K V) → (table_seen link value).link ≡ link
link_seen link (node.Table len limit turn) = refl
link_seen link _ = refl

-- it goes on, and has come to this table
abbrev pub ComesTo : {T : Type 0} → ℕ → EndMap × Settled T → Type 0
ComesTo b (e, settled.Done) = ⊥
ComesTo b (e, told) = IsAtTable e e.stands b

module _ {K V : Type 0} (b : ℕ) (m n : Mem (Node K V)) (c : EndMap) (end : EndMap × Settled (Node K V)) where
  abbrev shown : ℕ → Option (Node K V)
  shown = value_at n

  none : ⊥ → ⊥
  none x = x

  -- it has looked at this block
  abbrev Saw : Then (Node K V) (EndMap × Settled (Node K V)) → Type 0
  Saw rest = Ends shown rest end × MayLookAt b shown rest

  sees : (block : ℕ) (next : Node K V → EndMap × Settled (Node K V)) → ((value : Node K V) → b ≡ block → ComesTo b (next value)) → Saw (Seeing block (λ value. Now (next value))) → ComesTo b end
  sees block next comes ((value, is, e), inl here) = subst (ComesTo b) (sym e) (comes value here)
  sees block next comes (ends, inr (value, is, never)) = absurd never

  -- one of two ways does, and the other one looks at nothing
  or_sees : (x : Bool) (first : Then (Node K V) (EndMap × Settled (Node K V))) (block : ℕ) (next : Node K V → EndMap × Settled (Node K V)) → (MayLookAt b shown first → ⊥)
      → ((value : Node K V) → b ≡ block → ComesTo b (next value)) → Saw (if x then first else Seeing block (λ value. Now (next value))) → ComesTo b end
  or_sees true first block next never comes saw = absurd (never saw.1)
  or_sees false first block next never comes saw = sees block next comes saw

  sees_or : (x : Bool) (other : Then (Node K V) (EndMap × Settled (Node K V))) (block : ℕ) (next : Node K V → EndMap × Settled (Node K V)) → (MayLookAt b shown other → ⊥)
      → ((value : Node K V) → b ≡ block → ComesTo b (next value)) → Saw (if x then Seeing block (λ value. Now (next value)) else other) → ComesTo b end
  sees_or true other block next never comes saw = sees block next comes saw
  sees_or false other block next never comes saw = absurd (never saw.1)

  by_point : (p : Ending) → HasSeen b m (plan_at c p) n end → ComesTo b end
  by_point at.Reads saw =
      let l = loads b m n (Root c.setting.root) end (end_map.root_read c) saw in
      or_sees (l.0 == 0) _ (block_in l.0) (λ value. (record c { root = table_seen l.0 value; table = table_seen l.0 value; stands = at.Words }, settled.Goes)) none
      (λ value e. e ∙ ap block_in (sym (link_seen l.0 value))) l.3
  by_point at.Words saw =
      let l = loads b m n (Word (block_in c.table.link) ((c.place + PLACES) % 2 ^ 64)) end (end_map.word_read c) saw in absurd (none_if b shown (end_map.is_current c l.0) _ _ none none l.3.1)
  by_point (at.Takes pair) saw = let t = takes b m n end (end_map.given_back c (end_map.next_place c)) (block_in pair) saw in absurd t.1.1
  by_point at.Nexts saw =
      let l = loads b m n (Word (block_in c.table.link) NEXT) end (end_map.next_read c) saw in
      sees_or (not (l.0 == 0) && is_incremental c.setting.mode) _ (block_in l.0) (λ value. (record c { table = table_seen l.0 value; place = 0; stands = at.Words }, settled.Goes)) none
      (λ value e. e ∙ ap block_in (sym (link_seen l.0 value))) l.3
  by_point at.Carries saw =
      let l = loads b m n (Word (block_in c.table.link) DEFERRED) end (end_map.list_read c) saw in
      absurd (none_if b shown (l.0 == 0) _ _ none (none_if b shown c.owns _ _ none (none_if b shown (c.first == 0) _ _ none none)) l.3.1)
  by_point (at.Joins pair) saw = absurd saw.3
  by_point (at.Follows pair) saw =
      let l = loads b m n (Entry (block_in pair) NEXT_ENTRY) end (end_map.follower_read c pair) saw in
      absurd (none_if b shown c.owns _ _ none (none_if b shown (l.0 == 0) _ _ none none) l.3.1)
  by_point (at.Gives pair next) saw =
      let t = takes b m n end (end_map.given_back c (end_map.standing c (if next == 0 then at.Afters else at.Follows next))) (block_in pair) saw in absurd t.1.1
  by_point at.Afters saw = let l = loads b m n (Word (block_in c.table.link) NEXT) end (end_map.after_read c) saw in absurd l.3.1
  by_point (at.Drops next) saw =
      let t = takes b m n end (end_map.dropped c next) (block_in c.table.link) saw in
      or_sees (next == 0) _ (block_in next) (λ other. (record c { table = table_seen next other; stands = at.Carries }, settled.Gave t.0)) none
      (λ value e. e ∙ ap block_in (sym (link_seen next value))) t.1
  by_point at.Shards saw = let t = takes b m n end (end_map.given_back c (end_map.standing c at.Sets)) c.setting.counter saw in absurd t.1.1
  by_point at.Sets saw = absurd (none_if b shown (c.first == 0) _ _ none none saw.3)
  by_point at.Frees saw = absurd saw.3
  by_point at.Over saw = absurd saw.2

  -- a step of an end has seen no block but the table to which it comes
  end_sees : HasSeen b m (end_map_plan c) n end → ComesTo b end
  end_sees saw = by_point c.stands saw

module _ {K V : Type 0} (m n : Mem (Node K V)) (c e : EndMap) where
  abbrev HasLooked : Settled (Node K V) → List (ℕ × Node K V) → Type 0
  HasLooked told looks = AllLooked m (end_map_plan c) n (e, told) looks

  -- so what it has looked at is that one, with its value; and nothing, where the end is over
  pub looked_table : (told : Settled (Node K V)) (looks : List (ℕ × Node K V)) → HasLooked told looks → (b : ℕ) (x : Node K V) → shown_in looks b ≡ Some x
      → (value_at n b ≡ Some x) × ComesTo b (e, told)
  looked_table told [] seen b x is = absurd (cc is)
  looked_table told (look ∷ looks) (saw, there, more) b x is = by (b == look.0) refl is (looked_table told looks more b x)
    where
      by : (k : Bool) → (b == look.0) ≡ k → (if k then Some look.1 else shown_in looks b) ≡ Some x → (shown_in looks b ≡ Some x → (value_at n b ≡ Some x) × ComesTo b (e, told))
          → (value_at n b ≡ Some x) × ComesTo b (e, told)
      by false same f rest = rest f
      by true same f rest =
          let here = eqb-true b look.0 same in
          (ap (value_at n) here ∙ there ∙ f, subst (λ (a : ℕ). ComesTo a (e, told)) (sym here) (end_sees look.0 m n c (e, told) saw))

  pub none_looked : (looks : List (ℕ × Node K V)) → HasLooked settled.Done looks → looks ≡ []
  none_looked [] seen = refl
  none_looked (look ∷ looks) (saw, there, more) = absurd (end_sees look.0 m n c (e, settled.Done) saw)
