-- A head that was written reads back.
use Rattle.std.proofs.Common.{◌≡◌, ℕ, ◌+◌, ◌-◌, ◌^◌, ◌<◌, Bool, true, false, not, cond, ◌==◌, ◌&&◌, ◌||◌, List, [], ◌∷◌, ◌++◌, length, take, drop, Option, Some, None, codes, refl, sym, ap, ◌∙◌, arith, append_assoc, length-append}
use Rattle.std.specs.Prelude.{All, IsTrue, reverse, decimal, bytes_eq, nat_lt}
use Rattle.std.specs.List.{list_all, prefix_len}
use Rattle.std.specs.Char.{digit_value}
use Rattle.std.specs.Str.Parse.{digits_value, AllDigits}
use Rattle.std.proofs.lemmas.Bool.{false≢true, ltb-true}
use Rattle.std.proofs.lemmas.Bool.Decides.{nat_tests}
use Rattle.std.proofs.lemmas.Fmt.{decimal_is_IsNumeral}
use Rattle.std.proofs.lemmas.List.{append-nil, reverse-append, length-reverse}
use Rattle.std.proofs.Math.Seq.{take-append_seam, drop-append-add}
use Rattle.std.proofs.lemmas.List.Elements.{All-head, All-tail, All-append, All-cons, All-weaker}
use Rattle.std.proofs.lemmas.List.Sums.{AllPass-from_list_all}
use Rattle.std.proofs.lemmas.Slice.Eq.{bytes_eq-Decides}
use Rattle.spaces.specs.declared.roster.Method.{Method}
use Rattle.spaces.specs.declared.roster.Method.TheVariants.{Get, Head}
use Rattle.spaces.specs.declared.place.Origin.{Origin}
use Rattle.spaces.specs.RequestTargets.{method_name, port_text}
use Rattle.auth_text.specs.Text.{crlf}
use Rattle.wire_head.specs.declared.head_reader.ReadHead.{ReadHead}
use Rattle.wire_head.specs.Lines.{cut_at}
use Rattle.wire_head.proofs.StatusLineLemmas.{cut_crlf, plain}
use Rattle.wire_head.specs.RequestHeads.{field_line, connection_line, request_line, host_line}
use Rattle.wire_head.specs.ReadHeads.{in_line, in_target, is_fit_value, first_is, is_bracketed, has_colon, is_fit_host, is_fit, written}
use Rattle.wire_head.specs.HeadLines.{bare, line_at, behind_name, word, method_of, target_of, port_len, has_port, host_of, port_number, port_of, with_port, origin_of, is_keep_alive, with_origin, with_server, with_proxy, from_lines, if_written, head_read}

both : (a b : Bool) → a && b ≡ true → (a ≡ true) × (b ≡ true)
both true b h = (refl, h)
both false b h = absurd (false≢true h)

-- lines

abbrev pub Plain : List ℕ → Type 0
Plain text = All (λ b. IsTrue (plain b)) text

bare_again : (text : List ℕ) → bare (text ++ 13 ∷ []) ≡ text
bare_again text =
    let n : length (text ++ 13 ∷ []) - 1 ≡ length text = omega (arith, length-append text (13 ∷ [])) in
    ap (λ (k : ℕ). take k (text ++ 13 ∷ [])) n ∙ take-append_seam text (13 ∷ [])

cut_line : (text rest : List ℕ) → Plain text → cut_at 10 ((text ++ crlf) ++ rest) ≡ (text ++ 13 ∷ []) ∷ cut_at 10 rest
cut_line text rest all = ap (cut_at 10) (append_assoc text crlf rest) ∙ cut_crlf text rest all

abbrev pub field_lines : List ℕ → Option (List ℕ) → List (List ℕ)
field_lines name None = []
field_lines name (Some value) = (name ++ codes ": " ++ value ++ 13 ∷ []) ∷ []

pub field_is_plain : (name value : List ℕ) → Plain (name ++ codes ": ") → is_fit_value (Some value) ≡ true → Plain (name ++ codes ": " ++ value)
field_is_plain name value plain_name fit =
    All-append (λ b. IsTrue (plain b)) (name ++ codes ": ") value plain_name (AllPass-from_list_all plain value fit)

cut_field : (name : List ℕ) (value : Option (List ℕ)) (rest : List ℕ) → Plain (name ++ codes ": ") → is_fit_value value ≡ true
    → cut_at 10 (field_line name value ++ rest) ≡ field_lines name value ++ cut_at 10 rest
cut_field name None rest plain_name fit = refl
cut_field name (Some value) rest plain_name fit =
    cut_line (name ++ codes ": " ++ value) rest (field_is_plain name value plain_name fit)

abbrev last_text : Bool → List ℕ
last_text keep = connection_line keep ++ crlf

abbrev last_lines : Bool → List (List ℕ)
last_lines keep = cut_at 10 (last_text keep)

abbrev pub first_text : ReadHead → List ℕ
first_text p = method_name p.method ++ codes " " ++ p.target ++ codes " HTTP/1.1"

abbrev pub host_text : ReadHead → List ℕ
host_text p = codes "Host: " ++ p.origin.host ++ port_text p.origin.port

pub regroup : (a b c d e f : List ℕ) → a ++ b ++ c ++ d ++ e ++ f ≡ a ++ (b ++ (c ++ (d ++ (e ++ f))))
regroup a b c d e f = simp append_assoc

target_plain : (b : ℕ) → in_target b ≡ true → IsTrue (plain b)
target_plain b h = (both (in_line b) (not (b == 32)) h).0

method_plain : (m : Method) → Plain (method_name m ++ codes " ")
method_plain Get = AllPass-from_list_all plain (codes "GET ") refl
method_plain Head = AllPass-from_list_all plain (codes "HEAD ") refl

-- digits

digit_plain : (b : ℕ) → digit_value b < 10 → IsTrue (plain b)
digit_plain b small = grind (arith, nat_tests)

digit_no_colon : (b : ℕ) → digit_value b < 10 → not (b == 58) ≡ true
digit_no_colon b small = grind (arith, nat_tests)

digit_no_bracket : (b : ℕ) → digit_value b < 10 → (b == 93) ≡ false
digit_no_bracket b small = grind (arith, nat_tests)

digits_all : (ds : List ℕ) → AllDigits 10 ds → All (λ b. digit_value b < 10) ds
digits_all [] all = λ i x h. absurd (omega arith)
digits_all (d ∷ ds) all = All-cons (λ b. digit_value b < 10) d ds all.0 (digits_all ds all.1)

port_plain : (port : ℕ) → port < 2 ^ 64 → Plain (port_text port)
port_plain port small = by_test (port == 80)
  where
    by_test : (x : Bool) → Plain (cond x [] (codes ":" ++ decimal port))
    by_test true = λ i x h. absurd (omega arith)
    by_test false =
        All-cons (λ b. IsTrue (plain b)) 58 (decimal port) refl
        (All-weaker (λ b. digit_value b < 10) (λ b. IsTrue (plain b)) digit_plain (decimal port)
        (digits_all (decimal port) (decimal_is_IsNumeral port small).0.1))

-- what a fit head's parts are

pub record Fit (p : ReadHead) : Type 0 where
  pub target : All (λ b. in_target b ≡ true) p.target
  pub proxy : is_fit_value p.proxy ≡ true
  pub server : is_fit_value p.server ≡ true
  pub host : Plain p.origin.host
  pub form : (not (has_colon p.origin.host) || is_bracketed p.origin.host) ≡ true
  pub port : p.origin.port < 65536

pub fit_of : (p : ReadHead) → is_fit p ≡ true → Fit p
fit_of p whole =
    let h = both _ (nat_lt p.origin.port 65536) whole in
    let a = both _ (is_fit_host p.origin.host) h.0 in
    let b = both (list_all in_line p.origin.host) (not (has_colon p.origin.host) || is_bracketed p.origin.host) a.1 in
    let c = both _ (is_fit_value p.server) a.0 in
    let d = both (list_all in_target p.target) (is_fit_value p.proxy) c.0 in
    record {
      target = AllPass-from_list_all in_target p.target d.0;
      proxy = d.1;
      server = c.1;
      host = AllPass-from_list_all plain p.origin.host b.0;
      form = b.1;
      port = ltb-true p.origin.port 65536 h.1;
    }

pub first_is_plain : (p : ReadHead) → Fit p → Plain (first_text p)
first_is_plain p is =
    All-append (λ b. IsTrue (plain b)) (method_name p.method ++ codes " " ++ p.target) (codes " HTTP/1.1")
    (All-append (λ b. IsTrue (plain b)) (method_name p.method ++ codes " ") p.target (method_plain p.method)
    (All-weaker (λ b. in_target b ≡ true) (λ b. IsTrue (plain b)) target_plain p.target is.target))
    (AllPass-from_list_all plain (codes " HTTP/1.1") refl)

pub host_is_plain : (p : ReadHead) → Fit p → Plain (host_text p)
host_is_plain p is =
    All-append (λ b. IsTrue (plain b)) (codes "Host: " ++ p.origin.host) (port_text p.origin.port)
    (All-append (λ b. IsTrue (plain b)) (codes "Host: ") p.origin.host (AllPass-from_list_all plain (codes "Host: ") refl) is.host)
    (port_plain p.origin.port (omega (arith, is.port)))

lines_again : (p : ReadHead) → Fit p → cut_at 10 (written p)
    ≡ (first_text p ++ 13 ∷ []) ∷ (host_text p ++ 13 ∷ []) ∷ (field_lines (codes "Proxy-Authorization") p.proxy
    ++ (field_lines (codes "Authorization") p.server ++ last_lines p.keep))
lines_again p is =
    let line = request_line p.method p.target in
    let host = host_line p.origin in
    let proxy = field_line (codes "Proxy-Authorization") p.proxy in
    let server = field_line (codes "Authorization") p.server in
    let last = last_text p.keep in
    ap (cut_at 10) (regroup line host proxy server (connection_line p.keep) crlf)
    ∙ cut_line (first_text p) (host ++ (proxy ++ (server ++ last))) (first_is_plain p is)
    ∙ ap (λ (ls : List (List ℕ)). (first_text p ++ 13 ∷ []) ∷ ls)
    (cut_line (host_text p) (proxy ++ (server ++ last)) (host_is_plain p is)
    ∙ ap (λ (ls : List (List ℕ)). (host_text p ++ 13 ∷ []) ∷ ls)
    (cut_field (codes "Proxy-Authorization") p.proxy (server ++ last) (AllPass-from_list_all plain (codes "Proxy-Authorization: ") refl) is.proxy
    ∙ ap (λ (ls : List (List ℕ)). field_lines (codes "Proxy-Authorization") p.proxy ++ ls)
    (cut_field (codes "Authorization") p.server last (AllPass-from_list_all plain (codes "Authorization: ") refl) is.server)))

-- hosts

first_of_digits : (xs ys : List ℕ) → 0 < length xs → All (λ b. digit_value b < 10) xs → first_is 93 (xs ++ ys) ≡ false
first_of_digits [] ys some all = absurd (omega arith)
first_of_digits (x ∷ xs) ys some all = digit_no_bracket x (All-head (λ b. digit_value b < 10) x xs all)

until_colon : (xs ys : List ℕ) → All (λ b. digit_value b < 10) xs → prefix_len (λ b. not (b == 58)) (xs ++ 58 ∷ ys) ≡ length xs
until_colon [] ys all = refl
until_colon (x ∷ xs) ys all =
    ap (λ (t : Bool). cond t (1 + prefix_len (λ b. not (b == 58)) (xs ++ 58 ∷ ys)) 0) (digit_no_colon x (All-head (λ b. digit_value b < 10) x xs all))
    ∙ ap (λ (n : ℕ). 1 + n) (until_colon xs ys (All-tail (λ b. digit_value b < 10) x xs all))
    ∙ omega arith

digits_back : (xs : List ℕ) → All (λ b. digit_value b < 10) xs → All (λ b. digit_value b < 10) (reverse xs)
digits_back [] all = all
digits_back (x ∷ xs) all =
    let turned : reverse xs ++ x ∷ [] ≡ reverse (x ∷ xs) = sym (reverse-append (x ∷ []) xs) in
    rw (← turned) (All-append (λ b. digit_value b < 10) (reverse xs) (x ∷ [])
    (digits_back xs (All-tail (λ b. digit_value b < 10) x xs all))
    (All-cons (λ b. digit_value b < 10) x [] (All-head (λ b. digit_value b < 10) x xs all) (λ i y h. absurd (omega arith))))

or_true : (x y : Bool) → y ≡ true → x || y ≡ true
or_true true y h = refl
or_true false y h = h

colon_in : (host rest : List ℕ) → has_colon (host ++ 58 ∷ rest) ≡ true
colon_in [] rest = refl
colon_in (h ∷ host) rest = or_true (h == 58) (has_colon (host ++ 58 ∷ rest)) (colon_in host rest)

record With (host : List ℕ) (port : ℕ) (text : List ℕ) : Type 0 where
  host_is : host_of text ≡ host
  port_is : port_of text ≡ Some port

number_again : (n : ℕ) → n < 65536 → port_number n ≡ Some n
number_again n small = grind (arith, nat_tests)

with_digits : (host ds : List ℕ) (port : ℕ) → port < 65536 → 0 < length ds → All (λ b. digit_value b < 10) ds → digits_value 10 ds ≡ port
    → With host port (host ++ 58 ∷ ds)
with_digits host ds port few some all value =
    let text = host ++ 58 ∷ ds in
    let turned : reverse text ≡ reverse ds ++ 58 ∷ reverse host =
    reverse-append host (58 ∷ ds) ∙ ap (λ (t : List ℕ). t ++ reverse host) (reverse-append (58 ∷ []) ds) ∙ append_assoc (reverse ds) (58 ∷ []) (reverse host) in
    let back = digits_back ds all in
    let len = length-reverse ds in
    let size = length-append host (58 ∷ ds) in
    let last : first_is 93 (reverse text) ≡ false = ap (first_is 93) turned ∙ first_of_digits (reverse ds) (58 ∷ reverse host) (omega (arith, len)) back in
    let has : has_port text ≡ true = rw (colon_in host ds, last) refl in
    let n : port_len text ≡ length ds = ap (prefix_len (λ b. not (b == 58))) turned ∙ until_colon (reverse ds) (reverse host) back ∙ len in
    let front : length text - (port_len text + 1) ≡ length host = omega (arith, n, size) in
    let behind : length text - port_len text ≡ length host + 1 = omega (arith, n, size) in
    record {
      host_is = ap (λ (x : Bool). cond x (take (length text - (port_len text + 1)) text) text) has
          ∙ ap (λ (k : ℕ). take k text) front ∙ take-append_seam host (58 ∷ ds);
      port_is = ap (λ (x : Bool). cond x (port_number (digits_value 10 (drop (length text - port_len text) text))) (Some 80)) has
          ∙ ap (λ (k : ℕ). port_number (digits_value 10 (drop k text))) behind
          ∙ ap (λ (xs : List ℕ). port_number (digits_value 10 xs)) (drop-append-add host (58 ∷ ds) 1)
          ∙ ap port_number value
          ∙ number_again port few;
    }

no_port : (colon bracket : Bool) (host : List ℕ) → has_colon host ≡ colon → first_is 93 (reverse host) ≡ bracket
    → (not (has_colon host) || is_bracketed host) ≡ true → has_port host ≡ false
no_port false bracket host c b form = ap (λ (x : Bool). x && not (first_is 93 (reverse host))) c
no_port true true host c b form = rw (c, b) refl
no_port true false host c b form =
    let no : (not (has_colon host) || is_bracketed host) ≡ false = rw (c, b) (by_test (first_is 91 host)) in
    absurd (false≢true (sym no ∙ form))
  where
    by_test : (x : Bool) → x && false ≡ false
    by_test true = refl
    by_test false = refl

host_again : (host : List ℕ) (port : ℕ) → (not (has_colon host) || is_bracketed host) ≡ true → port < 65536
    → With host port (host ++ port_text port)
host_again host port form small = by_test (port == 80) refl
  where
    by_test : (x : Bool) → (port == 80) ≡ x → With host port (host ++ cond x [] (codes ":" ++ decimal port))
    by_test true is =
        let none = no_port (has_colon host) (first_is 93 (reverse host)) host refl refl form in
        let eighty : 80 ≡ port = grind (arith, nat_tests) in
        rw append-nil record {
          host_is = ap (λ (x : Bool). cond x (take (length host - (port_len host + 1)) host) host) none;
          port_is = ap (λ (x : Bool). cond x (port_number (digits_value 10 (drop (length host - port_len host) host))) (Some 80)) none
              ∙ ap (λ (n : ℕ). Some n) eighty;
        }
    by_test false is =
        let numeral = decimal_is_IsNumeral port (omega (arith, small)) in
        with_digits host (decimal port) port small numeral.0.0 (digits_all (decimal port) numeral.0.1) numeral.1

origin_again : (o : Origin) → With o.host o.port (o.host ++ port_text o.port) → origin_of (o.host ++ port_text o.port) ≡ Some o
origin_again o with =
    ap (λ (h : List ℕ). with_port h (port_of (o.host ++ port_text o.port))) with.host_is ∙ ap (with_port o.host) with.port_is

-- fields

keep_is : (keep : Bool) → is_keep_alive (line_at 0 (last_lines keep)) ≡ keep
keep_is true = refl
keep_is false = refl

abbrev built : ℕ → Method → List ℕ → List ℕ → Option (List ℕ) → Option (List ℕ) → Bool → Option ReadHead
built n method target host proxy server keep = with_origin n method target (origin_of host) proxy server keep

abbrev below : Option (List ℕ) → Option (List ℕ) → Bool → List (List ℕ)
below proxy server keep =
    field_lines (codes "Proxy-Authorization") proxy ++ (field_lines (codes "Authorization") server ++ last_lines keep)

abbrev proxy_on : ℕ → Method → List ℕ → List ℕ → List (List ℕ) → List ℕ → Option ReadHead
proxy_on n m t h ls line = with_proxy n m t h (behind_name (codes "Proxy-Authorization: ") line) 2 ls

abbrev server_on : ℕ → Method → List ℕ → List ℕ → Option (List ℕ) → ℕ → List (List ℕ) → List ℕ → Option ReadHead
server_on n m t h proxy at ls line = with_server n m t h proxy (behind_name (codes "Authorization: ") line) at ls

fields_again : (n : ℕ) (m : Method) (t h l0 l1 : List ℕ) (proxy server : Option (List ℕ)) (keep : Bool)
    → proxy_on n m t h (l0 ∷ l1 ∷ below proxy server keep) (line_at 2 (l0 ∷ l1 ∷ below proxy server keep)) ≡ built n m t h proxy server keep
fields_again n m t h l0 l1 None None true = refl
fields_again n m t h l0 l1 None None false = refl
fields_again n m t h l0 l1 None (Some value) keep =
    let ls = l0 ∷ l1 ∷ below None (Some value) keep in
    ap (proxy_on n m t h ls) (bare_again (codes "Authorization: " ++ value))
    ∙ ap (server_on n m t h None 2 ls) (bare_again (codes "Authorization: " ++ value))
    ∙ ap (built n m t h None (Some value)) (keep_is keep)
fields_again n m t h l0 l1 (Some proxy) None true =
    ap (proxy_on n m t h (l0 ∷ l1 ∷ below (Some proxy) None true)) (bare_again (codes "Proxy-Authorization: " ++ proxy))
fields_again n m t h l0 l1 (Some proxy) None false =
    ap (proxy_on n m t h (l0 ∷ l1 ∷ below (Some proxy) None false)) (bare_again (codes "Proxy-Authorization: " ++ proxy))
fields_again n m t h l0 l1 (Some proxy) (Some value) keep =
    let ls = l0 ∷ l1 ∷ below (Some proxy) (Some value) keep in
    ap (proxy_on n m t h ls) (bare_again (codes "Proxy-Authorization: " ++ proxy))
    ∙ ap (server_on n m t h (Some proxy) 3 ls) (bare_again (codes "Authorization: " ++ value))
    ∙ ap (built n m t h (Some proxy) (Some value)) (keep_is keep)

word_len : (target rest : List ℕ) → All (λ b. in_target b ≡ true) target → prefix_len (λ b. not (b == 32)) (target ++ 32 ∷ rest) ≡ length target
word_len [] rest all = refl
word_len (b ∷ target) rest all =
    let first = (both (in_line b) (not (b == 32)) (All-head (λ b. in_target b ≡ true) b target all)).1 in
    ap (λ (t : Bool). cond t (1 + prefix_len (λ b. not (b == 32)) (target ++ 32 ∷ rest)) 0) first
    ∙ ap (λ (n : ℕ). 1 + n) (word_len target rest (All-tail (λ b. in_target b ≡ true) b target all))
    ∙ omega arith

word_again : (target rest : List ℕ) → All (λ b. in_target b ≡ true) target → word (target ++ 32 ∷ rest) ≡ target
word_again target rest all = ap (λ (n : ℕ). take n (target ++ 32 ∷ rest)) (word_len target rest all) ∙ take-append_seam target (32 ∷ rest)

method_again : (m : Method) (target : List ℕ) → method_of (method_name m ++ codes " " ++ target ++ codes " HTTP/1.1") ≡ m
method_again Get target = refl
method_again Head target = refl

target_again : (m : Method) (target : List ℕ) → All (λ b. in_target b ≡ true) target
    → target_of (method_name m ++ codes " " ++ target ++ codes " HTTP/1.1") ≡ target
target_again Get target all = word_again target (codes "HTTP/1.1") all
target_again Head target all = word_again target (codes "HTTP/1.1") all

pub parts_again : (n : ℕ) (p : ReadHead) → is_fit p ≡ true → from_lines n (cut_at 10 (written p)) ≡ Some (record p { length = n })
parts_again n p fit =
    let is = fit_of p fit in
    let first = first_text p in
    let l0 = first ++ 13 ∷ [] in
    let l1 = host_text p ++ 13 ∷ [] in
    let ls = l0 ∷ l1 ∷ below p.proxy p.server p.keep in
    let host = p.origin.host ++ port_text p.origin.port in
    let line : host_text p ≡ codes "Host: " ++ host = append_assoc (codes "Host: ") p.origin.host (port_text p.origin.port) in
    ap (from_lines n) (lines_again p is)
    ∙ ap (λ (l : List ℕ). proxy_on n (method_of l) (target_of l) (drop 6 (bare l1)) ls (line_at 2 ls)) (bare_again first)
    ∙ ap (λ (h : List ℕ). proxy_on n (method_of first) (target_of first) (drop 6 h) ls (line_at 2 ls)) (bare_again (host_text p) ∙ line)
    ∙ ap (λ (m : Method). proxy_on n m (target_of first) host ls (line_at 2 ls)) (method_again p.method p.target)
    ∙ ap (λ (t : List ℕ). proxy_on n p.method t host ls (line_at 2 ls)) (target_again p.method p.target is.target)
    ∙ fields_again n p.method p.target host l0 l1 p.proxy p.server p.keep
    ∙ ap (λ (o : Option Origin). with_origin n p.method p.target o p.proxy p.server p.keep)
    (origin_again p.origin (host_again p.origin.host p.origin.port is.form is.port))

-- a fit head reads back
pub reads_again : (p : ReadHead) → is_fit p ≡ true → head_read (written p) ≡ Some (record p { length = length (written p) })
reads_again p fit =
    let n = length (written p) in
    ap (if_written (written p)) (parts_again n p fit)
    ∙ ap (λ (b : Bool). cond (b && bytes_eq (written p) (written p)) (Some (record p { length = n })) None) fit
    ∙ ap (λ (b : Bool). cond (true && b) (Some (record p { length = n })) None) ((bytes_eq-Decides (written p) (written p)).1 refl)

-- what is read is fit and writes the text
pub record Is (text : List ℕ) (p : ReadHead) : Type 0 where
  pub fit : is_fit p ≡ true
  pub text_is : written p ≡ text
  pub length_is : p.length ≡ length text

test_on : (b : Bool) (q p : ReadHead) → cond b (Some q) None ≡ Some p → (b ≡ true) × (q ≡ p)
test_on true q p h = (refl, cc)
test_on false q p h = cc h

written_on : (text : List ℕ) (q : Option ReadHead) (p : ReadHead) → if_written text q ≡ Some p
    → (is_fit p ≡ true) × (written p ≡ text) × (q ≡ Some p)
written_on text None p h = cc h
written_on text (Some q) p h =
    let on = test_on (is_fit q && bytes_eq (written q) text) q p h in
    let parts = both (is_fit q) (bytes_eq (written q) text) on.0 in (
      ap is_fit (sym on.1) ∙ parts.0,
      ap written (sym on.1) ∙ (bytes_eq-Decides (written q) text).0 parts.1,
      ap (λ (x : ReadHead). Some x) on.1,
    )

length_on : (n : ℕ) (m : Method) (t : List ℕ) (o : Option Origin) (proxy server : Option (List ℕ)) (keep : Bool) (p : ReadHead)
    → with_origin n m t o proxy server keep ≡ Some p → p.length ≡ n
length_on n m t None proxy server keep p h = cc h
length_on n m t (Some o) proxy server keep p h = cc h

pub read_is : (text : List ℕ) (p : ReadHead) → head_read text ≡ Some p → Is text p
read_is text p h =
    let on = written_on text (from_lines (length text) (cut_at 10 text)) p h in
    record { fit = on.0; text_is = on.1; length_is = length_on (length text) _ _ _ _ _ _ p on.2 }
