-- What holds after every list of calls on a new store, over any lawful kinds: all laws of runs together. Assumes nothing.
use Rattle.kinds.specs.Kinds.{KeyKind, ValueKind}
use Rattle.model.specs.Runs.{LiveMapsAreLawful, MarkedNodesAreTheTrie, MarkedEntriesAreTheKeys, MarksAreNumbersOfCalls, HeldThingsCanBeListed, TablesHoldAll, SavesWriteTheImage, CompareSaysWhetherMapsAreEqual, EqualImagesMeanEqualMaps, FreeIsWhatNoVersionHolds, SameNamesMeanOneImage, AcceptedMergesLeaveAVersion, MergeIsSymmetric}
use Rattle.model.specs.Effects.{AcceptedCallsHaveTheirEffects, OtherPlacesStay, RefusedCallsLeaveThePlaces, EachCallIsCounted, TablesKeepTheirLengths, PublishedVersionsAreGathered}

pub record LawsOfRuns (K : KeyKind) (V : ValueKind) : Type 0 where
  -- calls
  pub effects : AcceptedCallsHaveTheirEffects K V
  pub others : OtherPlacesStay K V
  pub refused : RefusedCallsLeaveThePlaces K V
  pub counted : EachCallIsCounted K V
  pub lengths : TablesKeepTheirLengths K V
  -- live versions
  pub lawful : LiveMapsAreLawful K V
  pub trie : MarkedNodesAreTheTrie K V
  pub keys : MarkedEntriesAreTheKeys K V
  pub marks : MarksAreNumbersOfCalls K V
  -- images
  pub saves : SavesWriteTheImage K V
  pub compares : CompareSaysWhetherMapsAreEqual K V
  pub equal_images : EqualImagesMeanEqualMaps K V
  -- cells
  pub listed : HeldThingsCanBeListed K V
  pub fits : TablesHoldAll K V
  pub free_cells : FreeIsWhatNoVersionHolds K V
  -- names
  pub gathered : PublishedVersionsAreGathered K V
  pub one_image : SameNamesMeanOneImage K V
  -- merges
  pub merges : AcceptedMergesLeaveAVersion K V
  pub symmetric : MergeIsSymmetric K V
