-- Fields with a name, one more.
use Rattle.std.proofs.Common.{◌≡◌, ℕ, ◌+◌, ◌<◌, List, [], ◌∷◌, ◌++◌, map, filter, length, take, get_or, bytes_eq, Bool, sym, ◌∙◌, ap, arith}
use Rattle.std.proofs.lemmas.List.{take_more, map-append, length-append}
use Rattle.std.proofs.lemmas.List.Elements.{filter-append}
use Rattle.named_model.specs.declared.named.Field.{Field}
use Rattle.named_model.specs.Model.{FieldTree}
use Rattle.named_model.specs.View.{field_view}

pub count_more : (fields : List Field) (i : ℕ) (x : Field) (name : List ℕ) (count more : ℕ) → i < length fields → x ≡ get_or fields i x
    → count ≡ length (filter (λ (f : FieldTree). bytes_eq f.name name) (map field_view (take i fields))) → more ≡ length (filter (λ (f : FieldTree). bytes_eq f.name name) (field_view x ∷ []))
    → count + more ≡ length (filter (λ (f : FieldTree). bytes_eq f.name name) (map field_view (take (i + 1) fields)))
count_more fields i x name count more l is before new =
    let p : FieldTree → Bool = λ f. bytes_eq f.name name in
    let old = map field_view (take i fields) in
    let all : map field_view (take (i + 1) fields) ≡ old ++ field_view x ∷ [] =
    ap (map field_view) (take_more fields i x l ∙ ap (λ y. take i fields ++ y ∷ []) (sym is)) ∙ map-append field_view (take i fields) (x ∷ []) in
    ap (λ n. n + more) before ∙ ap (λ n. length (filter p old) + n) new
    ∙ sym (ap (λ ys. length (filter p ys)) all ∙ ap length (filter-append p old (field_view x ∷ [])) ∙ length-append (filter p old) (filter p (field_view x ∷ [])))
