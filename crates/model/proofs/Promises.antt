-- What holds after every list of calls, together. Assumes nothing.
use Rattle.std.proofs.Common.{◌≡◌, ℕ, ◌≤◌, List, length, Some, ap, arith}
use mathlib.Core.List.{Memᴰ}
use Rattle.std.specs.List.{AllByRecursion}
use Rattle.kinds.specs.Kinds.{KeyKind, ValueKind}
use Rattle.model.specs.Images.{image}
use Rattle.model.specs.Sharing.{Marked}
use Rattle.model.specs.Accounts.{Version, Account, held_entries}
use Rattle.model.specs.Runs.{live, Reached, LiveMapsAreLawful, MarkedNodesAreTheTrie, MarkedEntriesAreTheKeys, MarksAreNumbersOfCalls, HeldThingsCanBeListed, TablesHoldAll, EqualImagesMeanEqualMaps, FreeIsWhatNoVersionHolds, SameNamesMeanOneImage, SavesWriteTheImage, CompareSaysWhetherMapsAreEqual, AcceptedMergesLeaveAVersion, MergeIsSymmetric}
use Rattle.model.specs.Laws.{LawsOfRuns}
use Rattle.model.specs.Effects.{AcceptedCallsHaveTheirEffects, OtherPlacesStay, RefusedCallsLeaveThePlaces, PublishedVersionsAreGathered}
use Rattle.model.proofs.Counts.{distinct_within, distinct_length, in_row_member, member_in_row}
use Rattle.model.proofs.Holding.{live_held}
use Rattle.model.proofs.Images.Exact.{exact}
use Rattle.model.proofs.Images.Round.{same_image}
use Rattle.model.proofs.Reached.{live_marked, reached_fits}
use Rattle.model.proofs.Room.{can_list, held_fits, free_is_left}
use Rattle.model.proofs.Runs.Invariants.{live_sound, live_uncrowded}
use Rattle.model.proofs.Runs.Effects.{effects as call_effects, others, refusals_leave, counted, lengths, gathered as published_gathered}
use Rattle.model.proofs.Runs.Live.{saves as save_answers, compares as compare_answers}
use Rattle.model.proofs.Runs.Merges.{merges_leave, merge_symmetric}
use Rattle.model.proofs.Runs.Names.{same_names}
use Rattle.model.proofs.Sizes.{marks_differ, settings_counted}

-- what holds of each of a row holds of a member
all_member : (P : Marked → Type 0) (x : Marked) {xs : List Marked} → AllByRecursion P xs → Memᴰ x xs → P x
all_member P x a (Memᴰ.head e) = rw e a.0
all_member P x a (Memᴰ.tail m) = all_member P x a.1 m

module _ (K : KeyKind) (V : ValueKind) where
  -- a live map has no more settings than there are entry cells
  pub few_settings : (a : Account) → Reached K V a → (i : ℕ) (v : Version) → live a i ≡ Some v → length v.settings ≤ 65535
  few_settings a r i v e =
      let keys = (live_marked K V (exact K V) a r i v e).0.keys in
      let fits = reached_fits K V (exact K V) a r in
      let most = settings_counted K v.settings v.entries (live_sound K V (exact K V) a r i v e).rises keys in
      let all = distinct_length v.entries (marks_differ v.entries keys.once) in
      let within = distinct_within v.entries (held_entries a.places) (λ x m. member_in_row x (live_held (λ w. w.entries) a x i v e (in_row_member x v.entries m))) in
      omega (arith, most, all, within, fits.entries, fits.few)

  pub lawful : LiveMapsAreLawful K V
  lawful a r i v e =
      let sound = live_sound K V (exact K V) a r i v e in
      record { rises = sound.rises; reads = sound.reads; uncrowded = live_uncrowded K V (exact K V) a r i v e; counted = omega (arith, few_settings a r i v e) }

  pub trie : MarkedNodesAreTheTrie K V
  trie a r i v e = (live_marked K V (exact K V) a r i v e).0.trie

  pub keys : MarkedEntriesAreTheKeys K V
  keys a r i v e = (live_marked K V (exact K V) a r i v e).0.keys

  pub marks : MarksAreNumbersOfCalls K V
  marks a r i v e =
      let m = (live_marked K V (exact K V) a r i v e).1 in
      (λ x. all_member (λ y. y.mark ≤ a.calls) x m.0, λ x. all_member (λ y. y.mark ≤ a.calls) x m.1)

  pub listed : HeldThingsCanBeListed K V
  listed a r = (can_list (λ v. v.nodes) a, can_list (λ v. v.entries) a)

  pub fits : TablesHoldAll K V
  fits a r nodes entries ln le = let f = reached_fits K V (exact K V) a r in held_fits K V a nodes entries ln le f.nodes f.entries

  pub equal_images : EqualImagesMeanEqualMaps K V
  equal_images a b r s i j v w e f = (same_image K V v.settings w.settings (lawful a r i v e) (lawful b s j w f), ap (image K V))

  pub free_cells : FreeIsWhatNoVersionHolds K V
  free_cells a r nodes entries ln le = let f = reached_fits K V (exact K V) a r in free_is_left K V a nodes entries ln le f.nodes f.entries

  pub saves : SavesWriteTheImage K V
  saves = save_answers K V (exact K V)

  pub compares : CompareSaysWhetherMapsAreEqual K V
  compares = compare_answers K V (exact K V)

  pub effects : AcceptedCallsHaveTheirEffects K V
  effects = call_effects K V (exact K V)

  pub other_places : OtherPlacesStay K V
  other_places = others K V (exact K V)

  pub refusals : RefusedCallsLeaveThePlaces K V
  refusals = refusals_leave K V (exact K V)

  pub gathered : PublishedVersionsAreGathered K V
  gathered = published_gathered K V (exact K V)

  pub merges : AcceptedMergesLeaveAVersion K V
  merges = merges_leave K V

  pub one_image : SameNamesMeanOneImage K V
  one_image = same_names K V (exact K V)

  pub symmetric : MergeIsSymmetric K V
  symmetric = merge_symmetric K V (exact K V)

  pub laws : LawsOfRuns K V
  laws = record {
    lawful = lawful;
    trie = trie;
    keys = keys;
    marks = marks;
    saves = saves;
    compares = compares;
    equal_images = equal_images;
    listed = listed;
    fits = fits;
    free_cells = free_cells;
    effects = effects;
    others = other_places;
    refused = refusals;
    counted = counted K V;
    lengths = lengths K V;
    gathered = gathered;
    one_image = one_image;
    merges = merges;
    symmetric = symmetric;
  }
