-- A call knows what is needed for its number.
use Rattle.std.proofs.Common.{◌≡◌, ℕ, suc, ◌^◌, ◌<◌, Bool, true, false, Some, inl, inr, ap, subst, sym, ◌∙◌, arith}
use Rattle.seize_words.specs.OneMemory.Word.{block_in}
use Rattle.seize_words.specs.OneMemory.Mem.{value_at}
use Rattle.seize_words.specs.declared.at.At.TheVariants.{Root, Word}
use Rattle.seize.specs.World.{World}
use Rattle.map_tables.specs.Chunks.{is_incremental}
use Rattle.map_tables.specs.declared.node.Node.{Node}
use Rattle.map_tables.specs.declared.node.Node.TheVariants as node
use Rattle.map_tables.specs.declared.setting.Setting.{Setting}
use Rattle.map_tables.specs.declared.table_words.TheConstants.{NEXT}
use Rattle.many_calls.specs.Given.RawDeclared.machines.asking.Asking.{Asking}
use Rattle.many_calls.specs.Given.RawDeclared.machines.asking.Asking.TheVariants as asking
use Rattle.many_calls.specs.Given.RawDeclared.machines.call.KeyCall.{KeyCall}
use Rattle.many_calls.specs.Given.RawDeclared.machines.call.Calling.{Calling}
use Rattle.many_calls.specs.Given.RawDeclared.machines.call.Calling.TheVariants as at
use Rattle.many_calls.specs.Given.RuleChart.{Chart}
use Rattle.many_calls.specs.Given.RuleWords.{Blocks}
use Rattle.many_calls.specs.Given.PointsFactsCalls.{Change, ByReply, holding, HasOwn, IsToFill, AskingFacts, CallingFacts, CallFacts}
use Rattle.map_measures.proofs.Falls.Stands.{HasPairInside, AskingStands, CallingStands, CallStands, LookingStands}
use Rattle.map_measures.proofs.Falls.Calls.MachineFacts.{new_table_stands, dispose_stands, looking_stands, copying_stands, copying_stands_blocking}

module _ {K V Q : Type 0} (same : K → K → Bool) (hash : K → ℕ) (asks : Q → K → Bool) (w : World (Node K V)) (caller : ℕ) (setting : Setting) (c : Chart K) (blocks : Blocks)
    (keys : K → Bool) (change : Change) (p : KeyCall K V Q) where
  -- the mode of a machine within it
  mode_is : (s : Setting) (b : Bool) → s ≡ setting → is_incremental setting.mode ≡ b → is_incremental s.mode ≡ b
  mode_is s b is mode = ap (λ (x : Setting). is_incremental x.mode) is ∙ mode

  -- a pair is in its own block, unless its key is out of it
  pub pair_inside : p.hash < 2 ^ 64 → holding p.replies.takes p.missing ≡ ByReply → IsToFill same hash asks w caller setting c blocks keys change p → HasPairInside setting w.memory c blocks p
  pair_inside few by_reply (inr (asked, vacant, key)) out = absurd (let k = key.key_is in cc (k, out))
  pair_inside few by_reply (inl its) out =
      by (subst (λ x. HasOwn same hash asks w caller setting c blocks keys change x p.asked p.replies.key p.own p.hash) by_reply its)
    where
      by : HasOwn same hash asks w caller setting c blocks keys change ByReply p.asked p.replies.key p.own p.hash
          → (key : K) × (value : V) × (value_at w.memory (block_in p.own) ≡ Some (node.Pair key value))
      by (asked, inl (bare, key)) = absurd (let k = key.key_is in cc (k, out))
      by (asked, inr (none, own)) =
          let is = own.word_is in let small = own.number.1 in
          (own.key, own.value, ap (value_at w.memory) (omega (arith, is, small, few)) ∙ own.there)

  asking_stands : p.hash < 2 ^ 64 → (asks_at : Asking) → AskingFacts same hash asks w caller setting c blocks keys change p asks_at → AskingStands setting w.memory c blocks p asks_at
  asking_stands few (asking.Absent gap) f = tt
  asking_stands few (asking.Present word) f = tt
  asking_stands few (asking.Fills word) f = ((f.4.0, f.4.1, f.4.2), f.2, pair_inside few f.1 f.0)
  asking_stands few (asking.GivesUp word) f = (f.4.0, f.4.1, f.4.2)

  calling_stands : p.hash < 2 ^ 64 → (stands : Calling) → CallingFacts same hash asks w caller setting c blocks keys change p stands → CallingStands setting w.memory c blocks p stands
  calling_stands few at.Makes f = tt
  calling_stands few (at.Looks lookup) f =
      subst (λ (code : ℕ). LookingStands setting w.memory c blocks code lookup.stands) (sym f.6.hash_is)
      (looking_stands w caller setting c blocks same hash setting.mode setting.root keys p.hash lookup.stands f.6.point)
  calling_stands few at.Roots f = tt
  calling_stands few at.Probes f = (f.1.0, f.1.1, f.1.2)
  calling_stands few (at.Tries word new) f = (f.2.0, f.2.1, f.2.2)
  calling_stands few at.Nexts f = (f.1, f.2.0)
  calling_stands few (at.Firsts making) f = new_table_stands w caller setting c blocks (Root setting.root) 0 making f.2
  calling_stands few (at.Allocs making) f = (f.1, f.2.0, new_table_stands w caller setting c blocks (Word (blocks.table f.1) NEXT) (suc f.1) making f.3)
  calling_stands few (at.Helps copier goal) f = (mode_is copier.setting true f.6.setting_is f.1, copying_stands w caller setting c blocks same hash copier copier.stands f.6.point)
  calling_stands few (at.Copies copier) f = (mode_is copier.setting false f.2.setting_is f.1, copying_stands_blocking w caller setting c blocks same hash copier copier.stands f.2.point)
  calling_stands few (at.Counts removed) f = tt
  calling_stands few (at.Disposes dispose answer) f = dispose_stands w caller setting c blocks dispose f.0
  calling_stands few (at.Asks asks_at) f = asking_stands few asks_at f
  calling_stands few (at.Drops end) f = tt
  calling_stands few (at.Over end) f = tt

  pub call_stands : CallFacts same hash asks w caller setting c blocks keys change p → CallStands setting w.memory c blocks p
  call_stands f = record { setting_is = f.setting_is; point = calling_stands f.code p.stands f.point }
