-- A list of Json values becomes a list of trees, value by value.
use Rattle.std.proofs.Common.{◌≡◌, List, [], ◌∷◌, ◌++◌, Result, Ok, Err, String, Global, string_bytes, ap, sym}
use Rattle.serde_json.specs.View.{view as json_view, items_view as json_items_view, members_view as json_members_view}
use Rattle.serde_json.specs.declared.value.Value.{Value}
use Rattle.serde_json.proofs.Views.{Entry}
use Rattle.log4rs_settings.specs.Data.{Data, Items, item, Members, member}
use Rattle.log4rs_settings.specs.Parts.{map_ok}
use Rattle.log4rs_settings.specs.FromJson.{of_json, of_json_items, of_json_members}
use Rattle.log4rs_settings.specs.declared.text.TextError.{TextError}
use Rattle.log4rs_settings.proofs.Joined.{both-parts}
use Rattle.log4rs_settings.proofs.Trees.{push_item, with_last}

pub items-last : (vs : List Value) (v : Value) (xs : Items) (d : Data) → of_json_items (json_items_view vs) ≡ Ok xs → of_json (json_view v) ≡ Ok d
    → of_json_items (json_items_view (vs ++ v ∷ [])) ≡ Ok (push_item xs d)
items-last [] v xs d done here = rw here (ap (map_ok (λ l. push_item l d)) done)
items-last (x ∷ vs) v xs d done here =
    let p = both-parts item (of_json (json_view x)) (of_json_items (json_items_view vs)) xs done in
    let grown : Items → Result Items TextError = λ l. Ok (push_item l d) in
    rw (p.2, items-last vs v p.1 d p.3 here) (ap grown (sym p.4))

pub items-refused : (vs : List Value) (v : Value) (rest : List Value) (xs : Items) (e : TextError) → of_json_items (json_items_view vs) ≡ Ok xs → of_json (json_view v) ≡ Err e
    → of_json_items (json_items_view (vs ++ v ∷ rest)) ≡ Err e
items-refused [] v rest xs e done here = rw here
items-refused (x ∷ vs) v rest xs e done here =
    let p = both-parts item (of_json (json_view x)) (of_json_items (json_items_view vs)) xs done in
    rw (p.2, items-refused vs v rest p.1 e p.3 here)

pub members-last : (es : List Entry) (k : String Global) (v : Value) (xs : Members) (d : Data) → of_json_members (json_members_view es) ≡ Ok xs → of_json (json_view v) ≡ Ok d
    → of_json_members (json_members_view (es ++ (k, v) ∷ [])) ≡ Ok (with_last xs (string_bytes k) d)
members-last [] k v xs d done here = rw here (ap (map_ok (λ l. with_last l (string_bytes k) d)) done)
members-last (x ∷ es) k v xs d done here =
    let p = both-parts (member (string_bytes x.0)) (of_json (json_view x.1)) (of_json_members (json_members_view es)) xs done in
    let grown : Members → Result Members TextError = λ l. Ok (with_last l (string_bytes k) d) in
    rw (p.2, members-last es k v p.1 d p.3 here) (ap grown (sym p.4))

pub members-refused : (es : List Entry) (k : String Global) (v : Value) (rest : List Entry) (xs : Members) (e : TextError) → of_json_members (json_members_view es) ≡ Ok xs → of_json (json_view v) ≡ Err e
    → of_json_members (json_members_view (es ++ (k, v) ∷ rest)) ≡ Err e
members-refused [] k v rest xs e done here = rw here
members-refused (x ∷ es) k v rest xs e done here =
    let p = both-parts (member (string_bytes x.0)) (of_json (json_view x.1)) (of_json_members (json_members_view es)) xs done in
    rw (p.2, members-refused es k v rest p.1 e p.3 here)
