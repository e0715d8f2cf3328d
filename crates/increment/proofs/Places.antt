-- When the members of a place are the same under two overlays: their items make it alike, and have the same terminals there.
use Rattle.std.proofs.Common.{◌≡◌, ◌↔◌, List, ◌++◌, Option, Some, None, Contains, refl, ap, sym, ◌∙◌, subst}
use Rattle.std.specs.List.{flat_map, list_any}
use Rattle.cim_words.specs.declared.statement.Statement.{Statement}
use Rattle.cim_model.specs.Live.{is_place, place_of, real_terms_at, terms_at}
use Rattle.link_rules.specs.Map.{AreMembers, IsEntry}
use Rattle.room_words.specs.Items.{item_terms_at, makes}
use Rattle.room_words.specs.declared.anchor.Anchor.{Anchor}
use Rattle.room_words.specs.declared.anchor.Anchor.TheVariants as anchor
use Rattle.room_words.specs.declared.overlay.Overlay.{Overlay}
use Rattle.room_words.specs.declared.term.Term.{Term}

-- the items of two overlays make a place alike, and have the same terminals there
pub record AgreeAt (o p : Overlay) (place : Anchor) : Type 0 where
  pub made : list_any (makes place) p.items ≡ list_any (makes place) o.items
  pub terms : flat_map (item_terms_at place) p.items ≡ flat_map (item_terms_at place) o.items

pub agree_back : (o p : Overlay) (place : Anchor) → AgreeAt o p place → AgreeAt p o place
agree_back o p place agree = record { made = sym agree.made; terms = sym agree.terms }

-- just the terminals that are listed at a place stand there
abbrev pub AreListed : List Statement → Overlay → Type 0
AreListed m o = (place : Anchor) (t : Term) → Contains (terms_at m o place) t ↔ (place_of m o t ≡ Some place)

-- so it is a place under both or neither, and the same terminals stand there
same_place : (m : List Statement) (o p : Overlay) (place : Anchor) → AgreeAt o p place → is_place m p place ≡ is_place m o place
same_place m o p (anchor.Node n) agree = refl
same_place m o p (anchor.Side id number) agree = agree.made

same_list : (m : List Statement) (o p : Overlay) (place : Anchor) → AgreeAt o p place → terms_at m p place ≡ terms_at m o place
same_list m o p place agree = ap (λ (terms : List Term). real_terms_at m place ++ terms) agree.terms

stands_too : (m : List Statement) (o p : Overlay) (place : Anchor) (t : Term) → AreListed m o → AreListed m p → AgreeAt o p place → place_of m o t ≡ Some place → place_of m p t ≡ Some place
stands_too m o p place t listed listed' agree at =
    (listed' place t).0 (subst (λ (terms : List Term). Contains terms t) (sym (same_list m o p place agree)) ((listed place t).1 at))

-- its members under one overlay are its members under the other
same_members : (m : List Statement) (o p : Overlay) (place : Anchor) (members : List Term) → AreListed m o → AreListed m p → AgreeAt o p place → AreMembers m o place members → AreMembers m p place members
same_members m o p place members listed listed' agree are = record {
  ascending = are.ascending;
  terminals = λ t. (
    (λ there. stands_too m o p place t listed listed' agree ((are.terminals t).0 there)),
    (λ at. (are.terminals t).1 (stands_too m p o place t listed' listed (agree_back o p place agree) at)),
  );
}

pub members_stay : (m : List Statement) (o p : Overlay) (place : Anchor) → AreListed m o → AreListed m p → AgreeAt o p place → (members : Option (List Term)) → IsEntry m o place members → IsEntry m p place members
members_stay m o p place listed listed' agree None none = same_place m o p place agree ∙ none
members_stay m o p place listed listed' agree (Some members) is = (same_place m o p place agree ∙ is.0, same_members m o p place members listed listed' agree is.1)
