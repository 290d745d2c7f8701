-- Wherever a moment shows it, a table that a call or a making has made is in its caller's hands, and noted as one that is not linked.
use Rattle.std.specs.Prelude.{◌≡◌, ℕ, Bool, List, length, Option, Some, None, ◌⊎◌}
use Rattle.std.proofs.Common.{refl, ap, subst, ◌∙◌, arith, inl, inr}
use Rattle.run_debts.specs.Given.SeizeWordsMem.{value_at}
use Rattle.run_debts.specs.Given.SeizeWordsWord.{block_in}
use Rattle.run_debts.specs.Given.SeizeWordsDeclared.at.At.{At}
use Rattle.run_debts.specs.Given.SeizeWordsDeclared.at.At.TheVariants.{Root, Word}
use Rattle.run_debts.specs.Given.SeizeWorld.{World, IsInside}
use Rattle.run_debts.specs.Given.TablesDeclared.node.Node.{Node}
use Rattle.run_debts.specs.Given.TablesDeclared.node.Node.TheVariants as node
use Rattle.run_debts.specs.Given.TablesDeclared.table.Table.{Table as Planned}
use Rattle.run_debts.specs.Given.TablesDeclared.table_words.TheConstants.{NEXT}
use Rattle.owner_calls.specs.Given.ResizeDeclared.new_map.NewMap.{NewMap}
use Rattle.owner_calls.specs.Given.ResizeDeclared.new_map.Opening.{Opening}
use Rattle.owner_calls.specs.Given.ResizeDeclared.new_map.Opening.TheVariants as opening
use Rattle.owner_calls.specs.Given.ResizeDeclared.new_table.Making.{Making}
use Rattle.owner_calls.specs.Given.ResizeDeclared.new_table.Making.TheVariants as making
use Rattle.owner_calls.specs.Given.ResizeDeclared.new_table.NewTable.{NewTable}
use Rattle.run_debts.specs.Given.RunsDeclared.shapes.TableShape.{TableShape}
use Rattle.run_debts.specs.Given.RunsDeclared.effect.TableId.{TableId}
use Rattle.run_debts.specs.Given.SchedulesMoment.{Moment}
use Rattle.run_debts.specs.Given.SchedulesViews.{tables_of}
use Rattle.owner_calls.specs.Given.RuleRule.{no_table}
use Rattle.owner_calls.proofs.Given.RuleWords.TablesSeen.{block_of_link}
use Rattle.owner_calls.specs.Given.CallersSights.{seen_by, IsVisibility}
use Rattle.owner_calls.specs.Given.CallersTogether.{UnderWay, OnKey, ForRoom, Counting, OverAll, Together, no_blocks}
use Rattle.run_debts.specs.Given.EffectsKnown.{Known}
use Rattle.run_debts.specs.Given.EffectsDeclared.role.Role.TheVariants as role
use Rattle.run_debts.specs.Given.FinishesMachines.{machine_of}
use Rattle.run_debts.specs.Given.FinishesMakings.{Beginning, OpeningFacts}
use Rattle.run_debts.specs.Given.FinishesMaps.{Standing}
use Rattle.run_debts.specs.Given.FollowsMaps.{table_of}
use Rattle.run_debts.specs.Given.FollowsShows.{Refines}
use Rattle.run_debts.proofs.Given.FollowsFinds.{tables_many}
use Rattle.run_debts.proofs.Given.FollowsWrites.{own_table}
use Rattle.run_blocks.specs.Owes.Making.{making_of, making_in_opening}
use Rattle.run_blocks.specs.Owes.Tables.{table_in, table_made, HoldsTable, TablesAreMade}
use Rattle.run_blocks.proofs.Owes.Held.{IsInHand}
use Rattle.run_blocks.proofs.Owes.Machines.{call_none, room_none, sweep_none}
use Rattle.run_blocks.proofs.Owes.Planned.{IsInHands, IsMadeBy, HasLink, IsInTurn, IsItsMaking, key_made, reserve_made, over_all_made, new_made}
use Rattle.run_blocks.proofs.Owes.Tables.Kinds.{HasUnmade, HasUnmadeSo, has_unmade, row_unmade}
use Rattle.run_debts.proofs.Given.ScenesMay.{standing_is}
use Rattle.run_debts.specs.Given.ScenesHeld.{Held, IsAt}
use Rattle.run_debts.specs.Given.ScenesScene.{Scene, slot_of}

-- a table that was made is one of a making
pub some_making : (o : Option NewTable) (t : Planned) → table_made o ≡ Some t → (n : NewTable) × (o ≡ Some n) × (table_in n.stands ≡ Some t)
some_making None t has = absurd (cc has)
some_making (Some n) t has = (n, refl, has)

module _ {K V : Type 0} (w : World (Node K V)) (j : ℕ) where
  pub hands_of : (p : Making) (t : Planned) → IsMadeBy w j p → table_in p ≡ Some t → IsInHands w j t
  hands_of (making.Promotes u) t made has = let same : u ≡ t = cc has in subst (IsInHands w j) same made
  hands_of (making.Links u) t made has = let same : u ≡ t = cc has in subst (IsInHands w j) same made
  hands_of (making.Drops u found) t made has = let same : u ≡ t = cc has in subst (IsInHands w j) same made
  hands_of (making.Sums before reason sum) t made has = absurd (cc has)
  hands_of (making.Makes u) t made has = absurd (cc has)
  hands_of (making.Over u) t made has = absurd (cc has)
  hands_of (making.Refused fault) t made has = absurd (cc has)

  pub its_block : (t : Planned) (h : IsInHands w j t) → block_in t.link ≡ h.block
  its_block t h = ap block_in h.link ∙ block_of_link h.block

  pub as_in_hand : (t : Planned) → IsInHands w j t → (b : ℕ) → b ≡ block_in t.link → IsInHand w j b
  as_in_hand t h b is =
      let at : b ≡ h.block = is ∙ its_block t h in record { hand = ap w.hand at ∙ h.hand; value = node.Table t.len t.limit t.turn; is = ap (value_at w.memory) at ∙ h.value; other = λ e. cc e }

-- the shape of a table
abbrev pub shape_of : Planned → TableShape
shape_of t = record { len = t.len; limit = t.limit }

-- the block is noted as a table that is not linked
abbrev pub IsNoted : Known → ℕ → Type 0
IsNoted known b = (turn : ℕ) × (shape : TableShape) × (known.roles b ≡ role.OwnTable turn shape)

-- where a table is to stand: at a root, or in the word of a table of the map
abbrev pub IsLinkThere : Known → At → Type 0
IsLinkThere known link = ((r : ℕ) × (link ≡ Root r)) ⊎ ((b : ℕ) × (len : ℕ) × (t : TableId) × (link ≡ Word b NEXT) × (known.roles b ≡ role.Table t len))

module _ {K V : Type 0} (same : K → K → Bool) (hash : ℕ → K → ℕ) (name : ℕ → List ℕ) (m : Moment K V) (known : Known) (s : Scene K V) (e : Held K V) (at : IsAt same hash e s)
    (shown : Refines same name m known s) where
  pub role_there : (j : ℕ) (t : Planned) → IsInHands s.world j t → known.roles (block_in t.link) ≡ role.OwnTable t.turn (shape_of t)
  role_there j t h =
      ap known.roles (its_block s.world j t h)
      ∙ own_table s.world m.stored known shown.blocks.roles h.block j t.len t.limit t.turn (let places = h.places in omega (arith, places)) h.hand h.value

  -- what is known of a making of a table, of this caller on this map
  abbrev pub MadeThere : ℕ → ℕ → NewTable → Type 0
  MadeThere map j n = IsMadeBy s.world j n.stands × IsLinkThere known n.link × IsInTurn (length (tables_of map m)) n.stands

  module _ (map j : ℕ) (u : UnderWay K V K) (here : s.calls map j ≡ Some u) (n : NewTable) where
    abbrev st : Standing K
    st = (standing_is same hash e s at map j u here).0

    there : s.maps map ≡ Some st
    there = (standing_is same hash e s at map j u here).1

    each : Together V same st.hash same st.setting slot_of s.world st.chart st.blocks st.sights (s.calls map)
    each = at.together.makings.standing.each map st there

    sight : IsInside (s.world.uses (slot_of j)) → IsVisibility st.chart st.blocks (st.sights (slot_of j))
    sight inside = (each.ground.sight (slot_of j) inside).0

    link_there : IsInside (s.world.uses (slot_of j)) → HasLink st.chart (seen_by st.blocks (st.sights (slot_of j))) n.link → IsLinkThere known n.link
    link_there inside (inl root) = inl root
    link_there inside (inr (t, is, before, seen)) = inr (st.blocks.table t, st.chart.len t, table_of map t, is, (shown.maps map st there).tables.roles t before ((sight inside).tables t before seen))

    from : IsInside (s.world.uses (slot_of j)) → IsItsMaking s.world j st.chart (seen_by st.blocks (st.sights (slot_of j))) n → MadeThere map j n
    from inside its = (its.0, link_there inside its.1, subst (λ (many : ℕ). IsInTurn many n.stands) (tables_many map (shown.number map) st m known (shown.maps map st there)) its.2)

  pub call_made : (map j : ℕ) (u : UnderWay K V K) → s.calls map j ≡ Some u → (n : NewTable) → making_of (machine_of u) ≡ Some n → MadeThere map j n
  call_made map j (OnKey x) here n is = elim ((each map j (OnKey x) here n).stand j (OnKey x) here) as (λ _. MadeThere map j n) [
    | inl k ↦
        let its = st map j (OnKey x) here n in
        from map j (OnKey x) here n ((each map j (OnKey x) here n).inside j (OnKey x) here) (key_made same its.hash its.setting slot_of s.world its.chart (seen_by its.blocks (its.sights (slot_of j))) j n x x.call k.1 is)
    | inr k ↦ absurd (let none = call_none x.call.stands k.1 in cc (none, is))
  ]
  call_made map j (ForRoom x) here n is = elim ((each map j (ForRoom x) here n).stand j (ForRoom x) here) as (λ _. MadeThere map j n) [
    | inl k ↦
        let its = st map j (ForRoom x) here n in
        from map j (ForRoom x) here n ((each map j (ForRoom x) here n).inside j (ForRoom x) here) (reserve_made same its.hash its.setting slot_of s.world its.chart (seen_by its.blocks (its.sights (slot_of j))) j n x.began x.reserve k.1 is)
    | inr k ↦ absurd (let none = room_none x.reserve.stands k.1 in cc (none, is))
  ]
  call_made map j (Counting sum) here n is = absurd (cc is)
  call_made map j (OverAll x) here n is = elim ((each map j (OverAll x) here n).stand j (OverAll x) here) as (λ _. MadeThere map j n) [
    | inl k ↦
        let its = st map j (OverAll x) here n in
        from map j (OverAll x) here n ((each map j (OverAll x) here n).inside j (OverAll x) here) (over_all_made same its.hash its.setting slot_of s.world its.chart (seen_by its.blocks (its.sights (slot_of j))) j n x x.sweep k.1 is)
    | inr k ↦ absurd (let none = sweep_none x.sweep.stands k.1 in cc (none, is))
  ]

  -- where a call is to make its own block, it has the pair for it
  pub call_unmade : (map j : ℕ) (u : UnderWay K V K) → s.calls map j ≡ Some u → HasUnmadeSo (machine_of u)
  call_unmade map j (OnKey x) here =
      let its = standing_is same hash e s at map j (OnKey x) here in
      elim ((at.together.makings.standing.each map its.0 its.1).stand j (OnKey x) here) as (λ _. HasUnmade x.call x.call.stands) [
        | inl k ↦ has_unmade same its.0.hash its.0.setting slot_of s.world its.0.chart (seen_by its.0.blocks (its.0.sights (slot_of j))) j x x.call k.1
        | inr k ↦ row_unmade x.call x.call.stands k.1
      ]
  call_unmade map j (ForRoom x) here = tt
  call_unmade map j (Counting sum) here = tt
  call_unmade map j (OverAll x) here = tt

  -- a table of a call's, and of a making's

  pub call_hands : (map j : ℕ) (u : UnderWay K V K) → s.calls map j ≡ Some u → (t : Planned) → table_made (making_of (machine_of u)) ≡ Some t → IsInHands s.world j t
  call_hands map j u here t has =
      let n = some_making (making_of (machine_of u)) t has in hands_of s.world j n.0.stands t (call_made map j u here n.0 n.1).0 n.2

  -- what is known of a making of a table, of the making of a map by this caller
  abbrev pub OpeningMade : ℕ → NewTable → Type 0
  OpeningMade j n = IsMadeBy s.world j n.stands × IsLinkThere known n.link × IsInTurn 0 n.stands

  opening_made : (j roots : ℕ) (c : NewMap) (p : Opening) → OpeningFacts s.world roots j c p → (n : NewTable) → making_in_opening p ≡ Some n → OpeningMade j n
  opening_made j roots c (opening.Tables x) facts n is =
      let its = new_made same (λ key. 0) s.world j c.setting (no_table {K = K}) no_blocks (Root c.setting.root) 0 x facts.2 in
      let one : x ≡ n = cc is in subst (OpeningMade j) one (its.0, inl (c.setting.root, facts.2.link_is), its.2)
  opening_made j roots c opening.Takes facts n is = absurd (cc is)
  opening_made j roots c opening.Shards facts n is = absurd (cc is)
  opening_made j roots c (opening.Unmakes fault) facts n is = absurd (cc is)
  opening_made j roots c (opening.Frees fault) facts n is = absurd (cc is)
  opening_made j roots c opening.Over facts n is = absurd (cc is)
  opening_made j roots c (opening.Refused fault) facts n is = absurd (cc is)

  pub maker_made : (j : ℕ) (d : Beginning K) → s.makers j ≡ Some d → (n : NewTable) → making_in_opening d.machine.stands ≡ Some n → OpeningMade j n
  maker_made j d here n is = opening_made j e.roots d.machine d.machine.stands (at.together.makings.facts j d here).point n is

  pub maker_hands : (j : ℕ) (d : Beginning K) → s.makers j ≡ Some d → (t : Planned) → table_made (making_in_opening d.machine.stands) ≡ Some t → IsInHands s.world j t
  maker_hands j d here t has =
      let n = some_making (making_in_opening d.machine.stands) t has in hands_of s.world j n.0.stands t (maker_made j d here n.0 n.1).0 n.2

  -- whoever has the block of such a table has it in hand, and it is noted so
  pub held_by : (j b : ℕ) → HoldsTable s j b → IsInHand s.world j b
  held_by j b (inl (map, u, here, t, has, is)) = as_in_hand s.world j t (call_hands map j u here t has) b is
  held_by j b (inr (d, here, t, has, is)) = as_in_hand s.world j t (maker_hands j d here t has) b is

  pub noted_by : (j b : ℕ) → HoldsTable s j b → IsNoted known b
  noted_by j b (inl (map, u, here, t, has, is)) = (t.turn, shape_of t, ap known.roles is ∙ role_there j t (call_hands map j u here t has))
  noted_by j b (inr (d, here, t, has, is)) = (t.turn, shape_of t, ap known.roles is ∙ role_there j t (maker_hands j d here t has))

pub tables_are_made : (K V : Type 0) (same : K → K → Bool) (hash : ℕ → K → ℕ) → TablesAreMade K V same hash
tables_are_made K V same hash name m known s e at shown tables b turn shape is =
    let its = tables.whose b turn shape is in (its.0, (held_by same hash name m known s e at shown its.0 b its.1).hand)
