-- They are traces, and heard, by computation.
use Rattle.std.proofs.Common.{true, [], ◌∷◌, ◌++◌, reverse, codes, Some, refl, inl}
use Rattle.base64.proofs.OnLiterals.{base64_on_literals}
use Rattle.httparse.proofs.OnLiterals.{httparse_on_literals}
use Rattle.md5.specs.Md5.{block_words, rounds, compress, hash_after, digest_bytes, md5}
use Rattle.sha2.specs.Sha256.{first_words, schedule, rounds as rounds256, compress as compress256, hash_after as hash_after256, digest_bytes as digest_bytes256, sha256}
use Rattle.hex.specs.Hex.{encode_with}
use Rattle.digest_handler.specs.Credentials.{first_fields}
use Rattle.std.specs.Fmt.{digits}
use Rattle.spaces.specs.declared.site.Target.TheVariants.{Server}
use Rattle.spaces.specs.declared.space.Scheme.TheVariants.{Basic}
use Rattle.auth_events.specs.declared.journal.Call.TheVariants.{Begin, Preempt, Select, Reject, Note, End}
use Rattle.link_trait.specs.Links.{stream_in}
use Rattle.auth_runs.specs.declared.event.Why.TheVariants.{Rounds}
use Rattle.auth_runs.specs.declared.event.Outcome.TheVariants.{Answered, Refused}
use Rattle.auth_runs.specs.declared.event.Event.TheVariants.{Headed, Ended}
use Rattle.trace_rule.specs.Challenges.{challenges_in}
use Rattle.trace_rule.specs.NextNonces.{next_in}
use Rattle.trace_rule.specs.Traces.{IsTrace}
use Rattle.trace_rule.specs.Heard.{ended, reply_in, reply_len, fault_in, IsHeard}
use Rattle.trace_rows.specs.RoundsSessions.{seventeen_rounds_setting, seventeen_rounds_links, seventeen_rounds_1_request, seventeen_rounds_1, sixteen_rounds_setting, sixteen_rounds_links, sixteen_rounds_1_request, sixteen_rounds_1}

pub seventeen_rounds_1_is_trace : IsTrace (seventeen_rounds_setting 1 seventeen_rounds_1_request) seventeen_rounds_1
unfolding digits base64_on_literals block_words rounds compress hash_after digest_bytes md5 encode_with first_words schedule rounds256 compress256 hash_after256 digest_bytes256 sha256 challenges_in next_in first_fields
seventeen_rounds_1_is_trace = inl (((((((((((((((((((((((((((((((((((((((((((((((((((((((((((((((((((((((((((((((((((((((((((((((((((((((((((((((((((((((tt, (refl {a = Begin}, refl {a = true})), (refl {a = (Preempt Server)}, refl {a = true})), refl {a = 1}), refl {a = Headed 1 (codes "GET / HTTP/1.1" ++ (13 ∷ (10 ∷ (codes "Host: h.example" ++ (13 ∷ (10 ∷ (codes "Connection: close" ++ (13 ∷ (10 ∷ (13 ∷ (10 ∷ [])))))))))))}), (refl {a = 1}, refl {a = true})), (refl {a = (Select 1 0)}, refl {a = true})), refl {a = 1}), (refl {a = 1}, refl {a = 0}, refl {a = true}, refl {a = true})), refl {a = 2}), refl {a = Headed 2 (codes "GET / HTTP/1.1" ++ (13 ∷ (10 ∷ (codes "Host: h.example" ++ (13 ∷ (10 ∷ (codes "Authorization: Basic dTpwMA==" ++ (13 ∷ (10 ∷ (codes "Connection: close" ++ (13 ∷ (10 ∷ (13 ∷ (10 ∷ []))))))))))))))}), (refl {a = 2}, refl {a = true})), (refl {a = (Reject 1 1)}, refl {a = true})), (refl {a = (Select 1 0)}, refl {a = true})), refl {a = 2}), (refl {a = 2}, refl {a = 0}, refl {a = true}, refl {a = true})), refl {a = 3}), refl {a = Headed 3 (codes "GET / HTTP/1.1" ++ (13 ∷ (10 ∷ (codes "Host: h.example" ++ (13 ∷ (10 ∷ (codes "Authorization: Basic dTpwMQ==" ++ (13 ∷ (10 ∷ (codes "Connection: close" ++ (13 ∷ (10 ∷ (13 ∷ (10 ∷ []))))))))))))))}), (refl {a = 3}, refl {a = true})), (refl {a = (Reject 1 2)}, refl {a = true})), (refl {a = (Select 1 0)}, refl {a = true})), refl {a = 3}), (refl {a = 3}, refl {a = 0}, refl {a = true}, refl {a = true})), refl {a = 4}), refl {a = Headed 4 (codes "GET / HTTP/1.1" ++ (13 ∷ (10 ∷ (codes "Host: h.example" ++ (13 ∷ (10 ∷ (codes "Authorization: Basic dTpwMg==" ++ (13 ∷ (10 ∷ (codes "Connection: close" ++ (13 ∷ (10 ∷ (13 ∷ (10 ∷ []))))))))))))))}), (refl {a = 4}, refl {a = true})), (refl {a = (Reject 1 3)}, refl {a = true})), (refl {a = (Select 1 0)}, refl {a = true})), refl {a = 4}), (refl {a = 4}, refl {a = 0}, refl {a = true}, refl {a = true})), refl {a = 5}), refl {a = Headed 5 (codes "GET / HTTP/1.1" ++ (13 ∷ (10 ∷ (codes "Host: h.example" ++ (13 ∷ (10 ∷ (codes "Authorization: Basic dTpwMw==" ++ (13 ∷ (10 ∷ (codes "Connection: close" ++ (13 ∷ (10 ∷ (13 ∷ (10 ∷ []))))))))))))))}), (refl {a = 5}, refl {a = true})), (refl {a = (Reject 1 4)}, refl {a = true})), (refl {a = (Select 1 0)}, refl {a = true})), refl {a = 5}), (refl {a = 5}, refl {a = 0}, refl {a = true}, refl {a = true})), refl {a = 6}), refl {a = Headed 6 (codes "GET / HTTP/1.1" ++ (13 ∷ (10 ∷ (codes "Host: h.example" ++ (13 ∷ (10 ∷ (codes "Authorization: Basic dTpwNA==" ++ (13 ∷ (10 ∷ (codes "Connection: close" ++ (13 ∷ (10 ∷ (13 ∷ (10 ∷ []))))))))))))))}), (refl {a = 6}, refl {a = true})), (refl {a = (Reject 1 5)}, refl {a = true})), (refl {a = (Select 1 0)}, refl {a = true})), refl {a = 6}), (refl {a = 6}, refl {a = 0}, refl {a = true}, refl {a = true})), refl {a = 7}), refl {a = Headed 7 (codes "GET / HTTP/1.1" ++ (13 ∷ (10 ∷ (codes "Host: h.example" ++ (13 ∷ (10 ∷ (codes "Authorization: Basic dTpwNQ==" ++ (13 ∷ (10 ∷ (codes "Connection: close" ++ (13 ∷ (10 ∷ (13 ∷ (10 ∷ []))))))))))))))}), (refl {a = 7}, refl {a = true})), (refl {a = (Reject 1 6)}, refl {a = true})), (refl {a = (Select 1 0)}, refl {a = true})), refl {a = 7}), (refl {a = 7}, refl {a = 0}, refl {a = true}, refl {a = true})), refl {a = 8}), refl {a = Headed 8 (codes "GET / HTTP/1.1" ++ (13 ∷ (10 ∷ (codes "Host: h.example" ++ (13 ∷ (10 ∷ (codes "Authorization: Basic dTpwNg==" ++ (13 ∷ (10 ∷ (codes "Connection: close" ++ (13 ∷ (10 ∷ (13 ∷ (10 ∷ []))))))))))))))}), (refl {a = 8}, refl {a = true})), (refl {a = (Reject 1 7)}, refl {a = true})), (refl {a = (Select 1 0)}, refl {a = true})), refl {a = 8}), (refl {a = 8}, refl {a = 0}, refl {a = true}, refl {a = true})), refl {a = 9}), refl {a = Headed 9 (codes "GET / HTTP/1.1" ++ (13 ∷ (10 ∷ (codes "Host: h.example" ++ (13 ∷ (10 ∷ (codes "Authorization: Basic dTpwNw==" ++ (13 ∷ (10 ∷ (codes "Connection: close" ++ (13 ∷ (10 ∷ (13 ∷ (10 ∷ []))))))))))))))}), (refl {a = 9}, refl {a = true})), (refl {a = (Reject 1 8)}, refl {a = true})), (refl {a = (Select 1 0)}, refl {a = true})), refl {a = 9}), (refl {a = 9}, refl {a = 0}, refl {a = true}, refl {a = true})), refl {a = 10}), refl {a = Headed 10 (codes "GET / HTTP/1.1" ++ (13 ∷ (10 ∷ (codes "Host: h.example" ++ (13 ∷ (10 ∷ (codes "Authorization: Basic dTpwOA==" ++ (13 ∷ (10 ∷ (codes "Connection: close" ++ (13 ∷ (10 ∷ (13 ∷ (10 ∷ []))))))))))))))}), (refl {a = 10}, refl {a = true})), (refl {a = (Reject 1 9)}, refl {a = true})), (refl {a = (Select 1 0)}, refl {a = true})), refl {a = 10}), (refl {a = 10}, refl {a = 0}, refl {a = true}, refl {a = true})), refl {a = 11}), refl {a = Headed 11 (codes "GET / HTTP/1.1" ++ (13 ∷ (10 ∷ (codes "Host: h.example" ++ (13 ∷ (10 ∷ (codes "Authorization: Basic dTpwOQ==" ++ (13 ∷ (10 ∷ (codes "Connection: close" ++ (13 ∷ (10 ∷ (13 ∷ (10 ∷ []))))))))))))))}), (refl {a = 11}, refl {a = true})), (refl {a = (Reject 1 10)}, refl {a = true})), (refl {a = (Select 1 0)}, refl {a = true})), refl {a = 11}), (refl {a = 11}, refl {a = 0}, refl {a = true}, refl {a = true})), refl {a = 12}), refl {a = Headed 12 (codes "GET / HTTP/1.1" ++ (13 ∷ (10 ∷ (codes "Host: h.example" ++ (13 ∷ (10 ∷ (codes "Authorization: Basic dTpwMTA=" ++ (13 ∷ (10 ∷ (codes "Connection: close" ++ (13 ∷ (10 ∷ (13 ∷ (10 ∷ []))))))))))))))}), (refl {a = 12}, refl {a = true})), (refl {a = (Reject 1 11)}, refl {a = true})), (refl {a = (Select 1 0)}, refl {a = true})), refl {a = 12}), (refl {a = 12}, refl {a = 0}, refl {a = true}, refl {a = true})), refl {a = 13}), refl {a = Headed 13 (codes "GET / HTTP/1.1" ++ (13 ∷ (10 ∷ (codes "Host: h.example" ++ (13 ∷ (10 ∷ (codes "Authorization: Basic dTpwMTE=" ++ (13 ∷ (10 ∷ (codes "Connection: close" ++ (13 ∷ (10 ∷ (13 ∷ (10 ∷ []))))))))))))))}), (refl {a = 13}, refl {a = true})), (refl {a = (Reject 1 12)}, refl {a = true})), (refl {a = (Select 1 0)}, refl {a = true})), refl {a = 13}), (refl {a = 13}, refl {a = 0}, refl {a = true}, refl {a = true})), refl {a = 14}), refl {a = Headed 14 (codes "GET / HTTP/1.1" ++ (13 ∷ (10 ∷ (codes "Host: h.example" ++ (13 ∷ (10 ∷ (codes "Authorization: Basic dTpwMTI=" ++ (13 ∷ (10 ∷ (codes "Connection: close" ++ (13 ∷ (10 ∷ (13 ∷ (10 ∷ []))))))))))))))}), (refl {a = 14}, refl {a = true})), (refl {a = (Reject 1 13)}, refl {a = true})), (refl {a = (Select 1 0)}, refl {a = true})), refl {a = 14}), (refl {a = 14}, refl {a = 0}, refl {a = true}, refl {a = true})), refl {a = 15}), refl {a = Headed 15 (codes "GET / HTTP/1.1" ++ (13 ∷ (10 ∷ (codes "Host: h.example" ++ (13 ∷ (10 ∷ (codes "Authorization: Basic dTpwMTM=" ++ (13 ∷ (10 ∷ (codes "Connection: close" ++ (13 ∷ (10 ∷ (13 ∷ (10 ∷ []))))))))))))))}), (refl {a = 15}, refl {a = true})), (refl {a = (Reject 1 14)}, refl {a = true})), (refl {a = (Select 1 0)}, refl {a = true})), refl {a = 15}), (refl {a = 15}, refl {a = 0}, refl {a = true}, refl {a = true})), refl {a = 16}), refl {a = Headed 16 (codes "GET / HTTP/1.1" ++ (13 ∷ (10 ∷ (codes "Host: h.example" ++ (13 ∷ (10 ∷ (codes "Authorization: Basic dTpwMTQ=" ++ (13 ∷ (10 ∷ (codes "Connection: close" ++ (13 ∷ (10 ∷ (13 ∷ (10 ∷ []))))))))))))))}), (refl {a = 16}, refl {a = true})), (refl {a = (Reject 1 15)}, refl {a = true})), (refl {a = (Select 1 0)}, refl {a = true})), refl {a = 16}), (refl {a = 16}, refl {a = 0}, refl {a = true}, refl {a = true})), refl {a = 17}), refl {a = Headed 17 (codes "GET / HTTP/1.1" ++ (13 ∷ (10 ∷ (codes "Host: h.example" ++ (13 ∷ (10 ∷ (codes "Authorization: Basic dTpwMTU=" ++ (13 ∷ (10 ∷ (codes "Connection: close" ++ (13 ∷ (10 ∷ (13 ∷ (10 ∷ []))))))))))))))}), (refl {a = 17}, refl {a = true})), (refl {a = End}, refl {a = true})), refl {a = Ended (Refused 401 Rounds)}), refl {a = true})

pub seventeen_rounds_1_is_heard : IsHeard (λ name. ended (stream_in seventeen_rounds_links name)) seventeen_rounds_1_request.method 1 (reverse seventeen_rounds_1)
unfolding httparse_on_literals reply_in reply_len fault_in
seventeen_rounds_1_is_heard = ((((((((((((((((((((((((((((((((((((((((((((((((((((((((((((((((((((((((((((((((((((((((((((((((((((((((((((((((((((((tt, tt), tt), tt), tt), refl {a = Some (record { code = 401; stays = true; body = 0; fields = ((codes "Basic realm=\"x\"") ∷ []); server_info = []; proxy_info = [] })}), tt), tt), tt), tt), tt), refl {a = Some (record { code = 401; stays = true; body = 0; fields = ((codes "Basic realm=\"x\"") ∷ []); server_info = []; proxy_info = [] })}), tt), tt), tt), tt), tt), tt), refl {a = Some (record { code = 401; stays = true; body = 0; fields = ((codes "Basic realm=\"x\"") ∷ []); server_info = []; proxy_info = [] })}), tt), tt), tt), tt), tt), tt), refl {a = Some (record { code = 401; stays = true; body = 0; fields = ((codes "Basic realm=\"x\"") ∷ []); server_info = []; proxy_info = [] })}), tt), tt), tt), tt), tt), tt), refl {a = Some (record { code = 401; stays = true; body = 0; fields = ((codes "Basic realm=\"x\"") ∷ []); server_info = []; proxy_info = [] })}), tt), tt), tt), tt), tt), tt), refl {a = Some (record { code = 401; stays = true; body = 0; fields = ((codes "Basic realm=\"x\"") ∷ []); server_info = []; proxy_info = [] })}), tt), tt), tt), tt), tt), tt), refl {a = Some (record { code = 401; stays = true; body = 0; fields = ((codes "Basic realm=\"x\"") ∷ []); server_info = []; proxy_info = [] })}), tt), tt), tt), tt), tt), tt), refl {a = Some (record { code = 401; stays = true; body = 0; fields = ((codes "Basic realm=\"x\"") ∷ []); server_info = []; proxy_info = [] })}), tt), tt), tt), tt), tt), tt), refl {a = Some (record { code = 401; stays = true; body = 0; fields = ((codes "Basic realm=\"x\"") ∷ []); server_info = []; proxy_info = [] })}), tt), tt), tt), tt), tt), tt), refl {a = Some (record { code = 401; stays = true; body = 0; fields = ((codes "Basic realm=\"x\"") ∷ []); server_info = []; proxy_info = [] })}), tt), tt), tt), tt), tt), tt), refl {a = Some (record { code = 401; stays = true; body = 0; fields = ((codes "Basic realm=\"x\"") ∷ []); server_info = []; proxy_info = [] })}), tt), tt), tt), tt), tt), tt), refl {a = Some (record { code = 401; stays = true; body = 0; fields = ((codes "Basic realm=\"x\"") ∷ []); server_info = []; proxy_info = [] })}), tt), tt), tt), tt), tt), tt), refl {a = Some (record { code = 401; stays = true; body = 0; fields = ((codes "Basic realm=\"x\"") ∷ []); server_info = []; proxy_info = [] })}), tt), tt), tt), tt), tt), tt), refl {a = Some (record { code = 401; stays = true; body = 0; fields = ((codes "Basic realm=\"x\"") ∷ []); server_info = []; proxy_info = [] })}), tt), tt), tt), tt), tt), tt), refl {a = Some (record { code = 401; stays = true; body = 0; fields = ((codes "Basic realm=\"x\"") ∷ []); server_info = []; proxy_info = [] })}), tt), tt), tt), tt), tt), tt), refl {a = Some (record { code = 401; stays = true; body = 0; fields = ((codes "Basic realm=\"x\"") ∷ []); server_info = []; proxy_info = [] })}), tt), tt), tt), tt), tt), tt), refl {a = Some (record { code = 401; stays = true; body = 0; fields = ((codes "Basic realm=\"x\"") ∷ []); server_info = []; proxy_info = [] })}), tt), tt)

pub sixteen_rounds_1_is_trace : IsTrace (sixteen_rounds_setting 1 sixteen_rounds_1_request) sixteen_rounds_1
unfolding digits base64_on_literals block_words rounds compress hash_after digest_bytes md5 encode_with first_words schedule rounds256 compress256 hash_after256 digest_bytes256 sha256 challenges_in next_in first_fields
sixteen_rounds_1_is_trace = inl ((((((((((((((((((((((((((((((((((((((((((((((((((((((((((((((((((((((((((((((((((((((((((((((((((((((((((((((((((((((((tt, (refl {a = Begin}, refl {a = true})), (refl {a = (Preempt Server)}, refl {a = true})), refl {a = 1}), refl {a = Headed 1 (codes "GET / HTTP/1.1" ++ (13 ∷ (10 ∷ (codes "Host: h.example" ++ (13 ∷ (10 ∷ (codes "Connection: close" ++ (13 ∷ (10 ∷ (13 ∷ (10 ∷ [])))))))))))}), (refl {a = 1}, refl {a = true})), (refl {a = (Select 1 0)}, refl {a = true})), refl {a = 1}), (refl {a = 1}, refl {a = 0}, refl {a = true}, refl {a = true})), refl {a = 2}), refl {a = Headed 2 (codes "GET / HTTP/1.1" ++ (13 ∷ (10 ∷ (codes "Host: h.example" ++ (13 ∷ (10 ∷ (codes "Authorization: Basic dTpwMA==" ++ (13 ∷ (10 ∷ (codes "Connection: close" ++ (13 ∷ (10 ∷ (13 ∷ (10 ∷ []))))))))))))))}), (refl {a = 2}, refl {a = true})), (refl {a = (Reject 1 1)}, refl {a = true})), (refl {a = (Select 1 0)}, refl {a = true})), refl {a = 2}), (refl {a = 2}, refl {a = 0}, refl {a = true}, refl {a = true})), refl {a = 3}), refl {a = Headed 3 (codes "GET / HTTP/1.1" ++ (13 ∷ (10 ∷ (codes "Host: h.example" ++ (13 ∷ (10 ∷ (codes "Authorization: Basic dTpwMQ==" ++ (13 ∷ (10 ∷ (codes "Connection: close" ++ (13 ∷ (10 ∷ (13 ∷ (10 ∷ []))))))))))))))}), (refl {a = 3}, refl {a = true})), (refl {a = (Reject 1 2)}, refl {a = true})), (refl {a = (Select 1 0)}, refl {a = true})), refl {a = 3}), (refl {a = 3}, refl {a = 0}, refl {a = true}, refl {a = true})), refl {a = 4}), refl {a = Headed 4 (codes "GET / HTTP/1.1" ++ (13 ∷ (10 ∷ (codes "Host: h.example" ++ (13 ∷ (10 ∷ (codes "Authorization: Basic dTpwMg==" ++ (13 ∷ (10 ∷ (codes "Connection: close" ++ (13 ∷ (10 ∷ (13 ∷ (10 ∷ []))))))))))))))}), (refl {a = 4}, refl {a = true})), (refl {a = (Reject 1 3)}, refl {a = true})), (refl {a = (Select 1 0)}, refl {a = true})), refl {a = 4}), (refl {a = 4}, refl {a = 0}, refl {a = true}, refl {a = true})), refl {a = 5}), refl {a = Headed 5 (codes "GET / HTTP/1.1" ++ (13 ∷ (10 ∷ (codes "Host: h.example" ++ (13 ∷ (10 ∷ (codes "Authorization: Basic dTpwMw==" ++ (13 ∷ (10 ∷ (codes "Connection: close" ++ (13 ∷ (10 ∷ (13 ∷ (10 ∷ []))))))))))))))}), (refl {a = 5}, refl {a = true})), (refl {a = (Reject 1 4)}, refl {a = true})), (refl {a = (Select 1 0)}, refl {a = true})), refl {a = 5}), (refl {a = 5}, refl {a = 0}, refl {a = true}, refl {a = true})), refl {a = 6}), refl {a = Headed 6 (codes "GET / HTTP/1.1" ++ (13 ∷ (10 ∷ (codes "Host: h.example" ++ (13 ∷ (10 ∷ (codes "Authorization: Basic dTpwNA==" ++ (13 ∷ (10 ∷ (codes "Connection: close" ++ (13 ∷ (10 ∷ (13 ∷ (10 ∷ []))))))))))))))}), (refl {a = 6}, refl {a = true})), (refl {a = (Reject 1 5)}, refl {a = true})), (refl {a = (Select 1 0)}, refl {a = true})), refl {a = 6}), (refl {a = 6}, refl {a = 0}, refl {a = true}, refl {a = true})), refl {a = 7}), refl {a = Headed 7 (codes "GET / HTTP/1.1" ++ (13 ∷ (10 ∷ (codes "Host: h.example" ++ (13 ∷ (10 ∷ (codes "Authorization: Basic dTpwNQ==" ++ (13 ∷ (10 ∷ (codes "Connection: close" ++ (13 ∷ (10 ∷ (13 ∷ (10 ∷ []))))))))))))))}), (refl {a = 7}, refl {a = true})), (refl {a = (Reject 1 6)}, refl {a = true})), (refl {a = (Select 1 0)}, refl {a = true})), refl {a = 7}), (refl {a = 7}, refl {a = 0}, refl {a = true}, refl {a = true})), refl {a = 8}), refl {a = Headed 8 (codes "GET / HTTP/1.1" ++ (13 ∷ (10 ∷ (codes "Host: h.example" ++ (13 ∷ (10 ∷ (codes "Authorization: Basic dTpwNg==" ++ (13 ∷ (10 ∷ (codes "Connection: close" ++ (13 ∷ (10 ∷ (13 ∷ (10 ∷ []))))))))))))))}), (refl {a = 8}, refl {a = true})), (refl {a = (Reject 1 7)}, refl {a = true})), (refl {a = (Select 1 0)}, refl {a = true})), refl {a = 8}), (refl {a = 8}, refl {a = 0}, refl {a = true}, refl {a = true})), refl {a = 9}), refl {a = Headed 9 (codes "GET / HTTP/1.1" ++ (13 ∷ (10 ∷ (codes "Host: h.example" ++ (13 ∷ (10 ∷ (codes "Authorization: Basic dTpwNw==" ++ (13 ∷ (10 ∷ (codes "Connection: close" ++ (13 ∷ (10 ∷ (13 ∷ (10 ∷ []))))))))))))))}), (refl {a = 9}, refl {a = true})), (refl {a = (Reject 1 8)}, refl {a = true})), (refl {a = (Select 1 0)}, refl {a = true})), refl {a = 9}), (refl {a = 9}, refl {a = 0}, refl {a = true}, refl {a = true})), refl {a = 10}), refl {a = Headed 10 (codes "GET / HTTP/1.1" ++ (13 ∷ (10 ∷ (codes "Host: h.example" ++ (13 ∷ (10 ∷ (codes "Authorization: Basic dTpwOA==" ++ (13 ∷ (10 ∷ (codes "Connection: close" ++ (13 ∷ (10 ∷ (13 ∷ (10 ∷ []))))))))))))))}), (refl {a = 10}, refl {a = true})), (refl {a = (Reject 1 9)}, refl {a = true})), (refl {a = (Select 1 0)}, refl {a = true})), refl {a = 10}), (refl {a = 10}, refl {a = 0}, refl {a = true}, refl {a = true})), refl {a = 11}), refl {a = Headed 11 (codes "GET / HTTP/1.1" ++ (13 ∷ (10 ∷ (codes "Host: h.example" ++ (13 ∷ (10 ∷ (codes "Authorization: Basic dTpwOQ==" ++ (13 ∷ (10 ∷ (codes "Connection: close" ++ (13 ∷ (10 ∷ (13 ∷ (10 ∷ []))))))))))))))}), (refl {a = 11}, refl {a = true})), (refl {a = (Reject 1 10)}, refl {a = true})), (refl {a = (Select 1 0)}, refl {a = true})), refl {a = 11}), (refl {a = 11}, refl {a = 0}, refl {a = true}, refl {a = true})), refl {a = 12}), refl {a = Headed 12 (codes "GET / HTTP/1.1" ++ (13 ∷ (10 ∷ (codes "Host: h.example" ++ (13 ∷ (10 ∷ (codes "Authorization: Basic dTpwMTA=" ++ (13 ∷ (10 ∷ (codes "Connection: close" ++ (13 ∷ (10 ∷ (13 ∷ (10 ∷ []))))))))))))))}), (refl {a = 12}, refl {a = true})), (refl {a = (Reject 1 11)}, refl {a = true})), (refl {a = (Select 1 0)}, refl {a = true})), refl {a = 12}), (refl {a = 12}, refl {a = 0}, refl {a = true}, refl {a = true})), refl {a = 13}), refl {a = Headed 13 (codes "GET / HTTP/1.1" ++ (13 ∷ (10 ∷ (codes "Host: h.example" ++ (13 ∷ (10 ∷ (codes "Authorization: Basic dTpwMTE=" ++ (13 ∷ (10 ∷ (codes "Connection: close" ++ (13 ∷ (10 ∷ (13 ∷ (10 ∷ []))))))))))))))}), (refl {a = 13}, refl {a = true})), (refl {a = (Reject 1 12)}, refl {a = true})), (refl {a = (Select 1 0)}, refl {a = true})), refl {a = 13}), (refl {a = 13}, refl {a = 0}, refl {a = true}, refl {a = true})), refl {a = 14}), refl {a = Headed 14 (codes "GET / HTTP/1.1" ++ (13 ∷ (10 ∷ (codes "Host: h.example" ++ (13 ∷ (10 ∷ (codes "Authorization: Basic dTpwMTI=" ++ (13 ∷ (10 ∷ (codes "Connection: close" ++ (13 ∷ (10 ∷ (13 ∷ (10 ∷ []))))))))))))))}), (refl {a = 14}, refl {a = true})), (refl {a = (Reject 1 13)}, refl {a = true})), (refl {a = (Select 1 0)}, refl {a = true})), refl {a = 14}), (refl {a = 14}, refl {a = 0}, refl {a = true}, refl {a = true})), refl {a = 15}), refl {a = Headed 15 (codes "GET / HTTP/1.1" ++ (13 ∷ (10 ∷ (codes "Host: h.example" ++ (13 ∷ (10 ∷ (codes "Authorization: Basic dTpwMTM=" ++ (13 ∷ (10 ∷ (codes "Connection: close" ++ (13 ∷ (10 ∷ (13 ∷ (10 ∷ []))))))))))))))}), (refl {a = 15}, refl {a = true})), (refl {a = (Reject 1 14)}, refl {a = true})), (refl {a = (Select 1 0)}, refl {a = true})), refl {a = 15}), (refl {a = 15}, refl {a = 0}, refl {a = true}, refl {a = true})), refl {a = 16}), refl {a = Headed 16 (codes "GET / HTTP/1.1" ++ (13 ∷ (10 ∷ (codes "Host: h.example" ++ (13 ∷ (10 ∷ (codes "Authorization: Basic dTpwMTQ=" ++ (13 ∷ (10 ∷ (codes "Connection: close" ++ (13 ∷ (10 ∷ (13 ∷ (10 ∷ []))))))))))))))}), (refl {a = 16}, refl {a = true})), (refl {a = (Reject 1 15)}, refl {a = true})), (refl {a = (Select 1 0)}, refl {a = true})), refl {a = 16}), (refl {a = 16}, refl {a = 0}, refl {a = true}, refl {a = true})), refl {a = 17}), refl {a = Headed 17 (codes "GET / HTTP/1.1" ++ (13 ∷ (10 ∷ (codes "Host: h.example" ++ (13 ∷ (10 ∷ (codes "Authorization: Basic dTpwMTU=" ++ (13 ∷ (10 ∷ (codes "Connection: close" ++ (13 ∷ (10 ∷ (13 ∷ (10 ∷ []))))))))))))))}), (refl {a = 17}, refl {a = true})), (refl {a = (Note (record { space = 1; ordinal = 16 }))}, refl {a = true})), (refl {a = End}, refl {a = true})), refl {a = Ended (Answered 200)}), refl {a = true})

pub sixteen_rounds_1_is_heard : IsHeard (λ name. ended (stream_in sixteen_rounds_links name)) sixteen_rounds_1_request.method 1 (reverse sixteen_rounds_1)
unfolding httparse_on_literals reply_in reply_len fault_in
sixteen_rounds_1_is_heard = (((((((((((((((((((((((((((((((((((((((((((((((((((((((((((((((((((((((((((((((((((((((((((((((((((((((((((((((((((((((tt, tt), tt), tt), tt), refl {a = Some (record { code = 401; stays = true; body = 0; fields = ((codes "Basic realm=\"x\"") ∷ []); server_info = []; proxy_info = [] })}), tt), tt), tt), tt), tt), refl {a = Some (record { code = 401; stays = true; body = 0; fields = ((codes "Basic realm=\"x\"") ∷ []); server_info = []; proxy_info = [] })}), tt), tt), tt), tt), tt), tt), refl {a = Some (record { code = 401; stays = true; body = 0; fields = ((codes "Basic realm=\"x\"") ∷ []); server_info = []; proxy_info = [] })}), tt), tt), tt), tt), tt), tt), refl {a = Some (record { code = 401; stays = true; body = 0; fields = ((codes "Basic realm=\"x\"") ∷ []); server_info = []; proxy_info = [] })}), tt), tt), tt), tt), tt), tt), refl {a = Some (record { code = 401; stays = true; body = 0; fields = ((codes "Basic realm=\"x\"") ∷ []); server_info = []; proxy_info = [] })}), tt), tt), tt), tt), tt), tt), refl {a = Some (record { code = 401; stays = true; body = 0; fields = ((codes "Basic realm=\"x\"") ∷ []); server_info = []; proxy_info = [] })}), tt), tt), tt), tt), tt), tt), refl {a = Some (record { code = 401; stays = true; body = 0; fields = ((codes "Basic realm=\"x\"") ∷ []); server_info = []; proxy_info = [] })}), tt), tt), tt), tt), tt), tt), refl {a = Some (record { code = 401; stays = true; body = 0; fields = ((codes "Basic realm=\"x\"") ∷ []); server_info = []; proxy_info = [] })}), tt), tt), tt), tt), tt), tt), refl {a = Some (record { code = 401; stays = true; body = 0; fields = ((codes "Basic realm=\"x\"") ∷ []); server_info = []; proxy_info = [] })}), tt), tt), tt), tt), tt), tt), refl {a = Some (record { code = 401; stays = true; body = 0; fields = ((codes "Basic realm=\"x\"") ∷ []); server_info = []; proxy_info = [] })}), tt), tt), tt), tt), tt), tt), refl {a = Some (record { code = 401; stays = true; body = 0; fields = ((codes "Basic realm=\"x\"") ∷ []); server_info = []; proxy_info = [] })}), tt), tt), tt), tt), tt), tt), refl {a = Some (record { code = 401; stays = true; body = 0; fields = ((codes "Basic realm=\"x\"") ∷ []); server_info = []; proxy_info = [] })}), tt), tt), tt), tt), tt), tt), refl {a = Some (record { code = 401; stays = true; body = 0; fields = ((codes "Basic realm=\"x\"") ∷ []); server_info = []; proxy_info = [] })}), tt), tt), tt), tt), tt), tt), refl {a = Some (record { code = 401; stays = true; body = 0; fields = ((codes "Basic realm=\"x\"") ∷ []); server_info = []; proxy_info = [] })}), tt), tt), tt), tt), tt), tt), refl {a = Some (record { code = 401; stays = true; body = 0; fields = ((codes "Basic realm=\"x\"") ∷ []); server_info = []; proxy_info = [] })}), tt), tt), tt), tt), tt), tt), refl {a = Some (record { code = 401; stays = true; body = 0; fields = ((codes "Basic realm=\"x\"") ∷ []); server_info = []; proxy_info = [] })}), tt), tt), tt), tt), tt), tt), refl {a = Some (record { code = 200; stays = true; body = 2; fields = []; server_info = []; proxy_info = [] })}), tt), tt), tt)
