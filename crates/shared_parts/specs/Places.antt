-- Where the items of a shared list stand: each item has a node, the nodes form complete trees, and the trees follow each other.
use Rattle.std.specs.Prelude.{◌≡◌, List, [], ◌++◌, length, Option, None, Some}
use Rattle.std.specs.Arc.{arc_value}
use Rattle.std.specs.declared.sync.Arc.{Arc}
use Rattle.std.specs.declared.alloc.Global.{Global}

-- What a node says of a list: the items before the node's tree, and the items of its tree, which ends with the node's own item.
pub record Place (X : Type 0) : Type 0 where
  pub earlier : List X
  pub tree : List X

module _ {X : Type 0} where
  -- The list up to a node: what stands before its tree, and then its tree.
  abbrev pub items : Place X → List X
  items place = place.earlier ++ place.tree

  -- The list up to a node that may be missing: a list that has no last node is empty.
  abbrev pub items_up_to : Option (Arc (Place X) Global) → List X
  items_up_to None = []
  items_up_to (Some node) = items (arc_value node)

  -- The items of the two trees under a node: those of the left tree, and then those of the right one. A node of a single item has none.
  abbrev pub items_under : Option (Arc (Place X) Global × Arc (Place X) Global) → List X
  items_under None = []
  items_under (Some (left, right)) = (arc_value left).tree ++ (arc_value right).tree

  -- Two trees under one node stand behind the same items, one directly behind the other, and are of the same size.
  pub record AreTwins (earlier : List X) (left right : Place X) : Type 0 where
    pub left_first : left.earlier ≡ earlier
    pub right_next : right.earlier ≡ earlier ++ left.tree
    pub same_size : length left.tree ≡ length right.tree

  -- What stands under a node is nothing, or twins.
  abbrev pub IsTreeBehind : List X → Option (Arc (Place X) Global × Arc (Place X) Global) → Type 0
  IsTreeBehind earlier None = Unit {0}
  IsTreeBehind earlier (Some (left, right)) = AreTwins earlier (arc_value left) (arc_value right)
