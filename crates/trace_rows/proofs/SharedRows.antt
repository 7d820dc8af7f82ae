-- They are traces, and heard, by computation.
use Rattle.std.proofs.Common.{true, [], ◌∷◌, ◌++◌, reverse, codes, Some, refl, inl}
use Rattle.base64.proofs.OnLiterals.{base64_on_literals}
use Rattle.httparse.proofs.OnLiterals.{httparse_on_literals}
use Rattle.md5.specs.Md5.{block_words, rounds, compress, hash_after, digest_bytes, md5}
use Rattle.sha2.specs.Sha256.{first_words, schedule, rounds as rounds256, compress as compress256, hash_after as hash_after256, digest_bytes as digest_bytes256, sha256}
use Rattle.hex.specs.Hex.{encode_with}
use Rattle.digest_handler.specs.Credentials.{first_fields}
use Rattle.std.specs.Fmt.{digits}
use Rattle.spaces.specs.declared.site.Target.TheVariants.{Server}
use Rattle.spaces.specs.declared.space.Scheme.TheVariants.{Basic}
use Rattle.auth_events.specs.declared.journal.Call.TheVariants.{Begin, Preempt, Select, Answer, Lose, Take, Note, End}
use Rattle.auth_events.specs.declared.journal.Loss.TheVariants.{Fault}
use Rattle.link_trait.specs.Links.{stream_in}
use Rattle.auth_runs.specs.declared.event.Why.TheVariants.{Cancelled as ByCancel}
use Rattle.auth_runs.specs.declared.event.Outcome.TheVariants.{Answered, Refused, PromptFailed}
use Rattle.auth_runs.specs.declared.event.Event.TheVariants.{Headed, Ended}
use Rattle.trace_rule.specs.Challenges.{challenges_in}
use Rattle.trace_rule.specs.NextNonces.{next_in}
use Rattle.trace_rule.specs.Traces.{IsTrace}
use Rattle.trace_rule.specs.Heard.{ended, reply_in, reply_len, fault_in, IsHeard}
use Rattle.trace_rows.specs.SharedSessions.{cancelled_prompt_setting, cancelled_prompt_links, cancelled_prompt_1_request, cancelled_prompt_1, cancelled_prompt_2_request, cancelled_prompt_2, cancelled_prompt_3_request, cancelled_prompt_3, lost_prompt_setting, lost_prompt_links, lost_prompt_1_request, lost_prompt_1, lost_prompt_2_request, lost_prompt_2, lost_prompt_3_request, lost_prompt_3, shared_answer_setting, shared_answer_links, shared_answer_1_request, shared_answer_1, shared_answer_2_request, shared_answer_2, shared_answer_3_request, shared_answer_3}

pub cancelled_prompt_1_is_trace : IsTrace (cancelled_prompt_setting 1 cancelled_prompt_1_request) cancelled_prompt_1
unfolding digits base64_on_literals block_words rounds compress hash_after digest_bytes md5 encode_with first_words schedule rounds256 compress256 hash_after256 digest_bytes256 sha256 challenges_in next_in first_fields
cancelled_prompt_1_is_trace = inl ((((((((((tt, (refl {a = Begin}, refl {a = true})), (refl {a = (Preempt Server)}, refl {a = true})), refl {a = 1}), refl {a = Headed 1 (codes "GET / HTTP/1.1" ++ (13 ∷ (10 ∷ (codes "Host: h.example" ++ (13 ∷ (10 ∷ (codes "Connection: close" ++ (13 ∷ (10 ∷ (13 ∷ (10 ∷ [])))))))))))}), (refl {a = 1}, refl {a = true})), (refl {a = (Select 1 0)}, refl {a = true})), (refl {a = (Take 1)}, refl {a = true})), (refl {a = End}, refl {a = true})), refl {a = Ended (Refused 401 (ByCancel 1))}), refl {a = true})

pub cancelled_prompt_1_is_heard : IsHeard (λ name. ended (stream_in cancelled_prompt_links name)) cancelled_prompt_1_request.method 1 (reverse cancelled_prompt_1)
unfolding httparse_on_literals reply_in reply_len fault_in
cancelled_prompt_1_is_heard = (((((((((tt, tt), tt), tt), tt), refl {a = Some (record { code = 401; stays = true; body = 0; fields = ((codes "Basic realm=\"x\"") ∷ []); server_info = []; proxy_info = [] })}), tt), tt), tt), tt)

pub cancelled_prompt_2_is_trace : IsTrace (cancelled_prompt_setting 2 cancelled_prompt_2_request) cancelled_prompt_2
unfolding digits base64_on_literals block_words rounds compress hash_after digest_bytes md5 encode_with first_words schedule rounds256 compress256 hash_after256 digest_bytes256 sha256 challenges_in next_in first_fields
cancelled_prompt_2_is_trace = inl (((((((((((tt, (refl {a = Begin}, refl {a = true})), (refl {a = (Preempt Server)}, refl {a = true})), refl {a = 1}), refl {a = Headed 1 (codes "GET / HTTP/1.1" ++ (13 ∷ (10 ∷ (codes "Host: h.example" ++ (13 ∷ (10 ∷ (codes "Connection: close" ++ (13 ∷ (10 ∷ (13 ∷ (10 ∷ [])))))))))))}), (refl {a = 1}, refl {a = true})), (refl {a = (Select 1 0)}, refl {a = true})), refl {a = 1}), (refl {a = (Answer 1 0 0)}, refl {a = true})), (refl {a = End}, refl {a = true})), refl {a = Ended (Refused 401 (ByCancel 1))}), refl {a = true})

pub cancelled_prompt_2_is_heard : IsHeard (λ name. ended (stream_in cancelled_prompt_links name)) cancelled_prompt_2_request.method 2 (reverse cancelled_prompt_2)
unfolding httparse_on_literals reply_in reply_len fault_in
cancelled_prompt_2_is_heard = ((((((((((tt, tt), tt), tt), tt), refl {a = Some (record { code = 401; stays = true; body = 0; fields = ((codes "Basic realm=\"x\"") ∷ []); server_info = []; proxy_info = [] })}), tt), tt), tt), tt), tt)

pub cancelled_prompt_3_is_trace : IsTrace (cancelled_prompt_setting 3 cancelled_prompt_3_request) cancelled_prompt_3
unfolding digits base64_on_literals block_words rounds compress hash_after digest_bytes md5 encode_with first_words schedule rounds256 compress256 hash_after256 digest_bytes256 sha256 challenges_in next_in first_fields
cancelled_prompt_3_is_trace = inl ((((((((((tt, (refl {a = Begin}, refl {a = true})), (refl {a = (Preempt Server)}, refl {a = true})), refl {a = 1}), refl {a = Headed 1 (codes "GET / HTTP/1.1" ++ (13 ∷ (10 ∷ (codes "Host: h.example" ++ (13 ∷ (10 ∷ (codes "Connection: close" ++ (13 ∷ (10 ∷ (13 ∷ (10 ∷ [])))))))))))}), (refl {a = 1}, refl {a = true})), (refl {a = (Select 1 0)}, refl {a = true})), (refl {a = (Take 1)}, refl {a = true})), (refl {a = End}, refl {a = true})), refl {a = Ended (Refused 401 (ByCancel 1))}), refl {a = true})

pub cancelled_prompt_3_is_heard : IsHeard (λ name. ended (stream_in cancelled_prompt_links name)) cancelled_prompt_3_request.method 3 (reverse cancelled_prompt_3)
unfolding httparse_on_literals reply_in reply_len fault_in
cancelled_prompt_3_is_heard = (((((((((tt, tt), tt), tt), tt), refl {a = Some (record { code = 401; stays = true; body = 0; fields = ((codes "Basic realm=\"x\"") ∷ []); server_info = []; proxy_info = [] })}), tt), tt), tt), tt)

pub lost_prompt_1_is_trace : IsTrace (lost_prompt_setting 1 lost_prompt_1_request) lost_prompt_1
unfolding digits base64_on_literals block_words rounds compress hash_after digest_bytes md5 encode_with first_words schedule rounds256 compress256 hash_after256 digest_bytes256 sha256 challenges_in next_in first_fields
lost_prompt_1_is_trace = inl ((((((((((tt, (refl {a = Begin}, refl {a = true})), (refl {a = (Preempt Server)}, refl {a = true})), refl {a = 1}), refl {a = Headed 1 (codes "GET / HTTP/1.1" ++ (13 ∷ (10 ∷ (codes "Host: h.example" ++ (13 ∷ (10 ∷ (codes "Connection: close" ++ (13 ∷ (10 ∷ (13 ∷ (10 ∷ [])))))))))))}), (refl {a = 1}, refl {a = true})), (refl {a = (Select 1 0)}, refl {a = true})), (refl {a = (Take 1)}, refl {a = true})), (refl {a = End}, refl {a = true})), refl {a = Ended (PromptFailed 5)}), refl {a = true})

pub lost_prompt_1_is_heard : IsHeard (λ name. ended (stream_in lost_prompt_links name)) lost_prompt_1_request.method 1 (reverse lost_prompt_1)
unfolding httparse_on_literals reply_in reply_len fault_in
lost_prompt_1_is_heard = (((((((((tt, tt), tt), tt), tt), refl {a = Some (record { code = 401; stays = true; body = 0; fields = ((codes "Basic realm=\"x\"") ∷ []); server_info = []; proxy_info = [] })}), tt), tt), tt), tt)

pub lost_prompt_2_is_trace : IsTrace (lost_prompt_setting 2 lost_prompt_2_request) lost_prompt_2
unfolding digits base64_on_literals block_words rounds compress hash_after digest_bytes md5 encode_with first_words schedule rounds256 compress256 hash_after256 digest_bytes256 sha256 challenges_in next_in first_fields
lost_prompt_2_is_trace = inl (((((((((((tt, (refl {a = Begin}, refl {a = true})), (refl {a = (Preempt Server)}, refl {a = true})), refl {a = 1}), refl {a = Headed 1 (codes "GET / HTTP/1.1" ++ (13 ∷ (10 ∷ (codes "Host: h.example" ++ (13 ∷ (10 ∷ (codes "Connection: close" ++ (13 ∷ (10 ∷ (13 ∷ (10 ∷ [])))))))))))}), (refl {a = 1}, refl {a = true})), (refl {a = (Select 1 0)}, refl {a = true})), refl {a = 1}), (refl {a = (Lose 1 (Fault 5))}, refl {a = true})), (refl {a = End}, refl {a = true})), refl {a = Ended (PromptFailed 5)}), refl {a = true})

pub lost_prompt_2_is_heard : IsHeard (λ name. ended (stream_in lost_prompt_links name)) lost_prompt_2_request.method 2 (reverse lost_prompt_2)
unfolding httparse_on_literals reply_in reply_len fault_in
lost_prompt_2_is_heard = ((((((((((tt, tt), tt), tt), tt), refl {a = Some (record { code = 401; stays = true; body = 0; fields = ((codes "Basic realm=\"x\"") ∷ []); server_info = []; proxy_info = [] })}), tt), tt), tt), tt), tt)

pub lost_prompt_3_is_trace : IsTrace (lost_prompt_setting 3 lost_prompt_3_request) lost_prompt_3
unfolding digits base64_on_literals block_words rounds compress hash_after digest_bytes md5 encode_with first_words schedule rounds256 compress256 hash_after256 digest_bytes256 sha256 challenges_in next_in first_fields
lost_prompt_3_is_trace = inl ((((((((((tt, (refl {a = Begin}, refl {a = true})), (refl {a = (Preempt Server)}, refl {a = true})), refl {a = 1}), refl {a = Headed 1 (codes "GET / HTTP/1.1" ++ (13 ∷ (10 ∷ (codes "Host: h.example" ++ (13 ∷ (10 ∷ (codes "Connection: close" ++ (13 ∷ (10 ∷ (13 ∷ (10 ∷ [])))))))))))}), (refl {a = 1}, refl {a = true})), (refl {a = (Select 1 0)}, refl {a = true})), (refl {a = (Take 1)}, refl {a = true})), (refl {a = End}, refl {a = true})), refl {a = Ended (PromptFailed 5)}), refl {a = true})

pub lost_prompt_3_is_heard : IsHeard (λ name. ended (stream_in lost_prompt_links name)) lost_prompt_3_request.method 3 (reverse lost_prompt_3)
unfolding httparse_on_literals reply_in reply_len fault_in
lost_prompt_3_is_heard = (((((((((tt, tt), tt), tt), tt), refl {a = Some (record { code = 401; stays = true; body = 0; fields = ((codes "Basic realm=\"x\"") ∷ []); server_info = []; proxy_info = [] })}), tt), tt), tt), tt)

pub shared_answer_1_is_trace : IsTrace (shared_answer_setting 1 shared_answer_1_request) shared_answer_1
unfolding digits base64_on_literals block_words rounds compress hash_after digest_bytes md5 encode_with first_words schedule rounds256 compress256 hash_after256 digest_bytes256 sha256 challenges_in next_in first_fields
shared_answer_1_is_trace = inl ((((((((((((((tt, (refl {a = Begin}, refl {a = true})), (refl {a = (Preempt Server)}, refl {a = true})), refl {a = 1}), refl {a = Headed 1 (codes "GET / HTTP/1.1" ++ (13 ∷ (10 ∷ (codes "Host: h.example" ++ (13 ∷ (10 ∷ (codes "Connection: close" ++ (13 ∷ (10 ∷ (13 ∷ (10 ∷ [])))))))))))}), (refl {a = 1}, refl {a = true})), (refl {a = (Select 1 0)}, refl {a = true})), (refl {a = (Take 1)}, refl {a = true})), refl {a = 2}), refl {a = Headed 2 (codes "GET / HTTP/1.1" ++ (13 ∷ (10 ∷ (codes "Host: h.example" ++ (13 ∷ (10 ∷ (codes "Authorization: Basic dTpw" ++ (13 ∷ (10 ∷ (codes "Connection: close" ++ (13 ∷ (10 ∷ (13 ∷ (10 ∷ []))))))))))))))}), (refl {a = 2}, refl {a = true})), (refl {a = (Note (record { space = 1; ordinal = 1 }))}, refl {a = true})), (refl {a = End}, refl {a = true})), refl {a = Ended (Answered 200)}), refl {a = true})

pub shared_answer_1_is_heard : IsHeard (λ name. ended (stream_in shared_answer_links name)) shared_answer_1_request.method 1 (reverse shared_answer_1)
unfolding httparse_on_literals reply_in reply_len fault_in
shared_answer_1_is_heard = (((((((((((((tt, tt), tt), tt), tt), refl {a = Some (record { code = 401; stays = true; body = 0; fields = ((codes "Basic realm=\"x\"") ∷ []); server_info = []; proxy_info = [] })}), tt), tt), tt), tt), refl {a = Some (record { code = 200; stays = true; body = 2; fields = []; server_info = []; proxy_info = [] })}), tt), tt), tt)

pub shared_answer_2_is_trace : IsTrace (shared_answer_setting 2 shared_answer_2_request) shared_answer_2
unfolding digits base64_on_literals block_words rounds compress hash_after digest_bytes md5 encode_with first_words schedule rounds256 compress256 hash_after256 digest_bytes256 sha256 challenges_in next_in first_fields
shared_answer_2_is_trace = inl (((((((((((((((tt, (refl {a = Begin}, refl {a = true})), (refl {a = (Preempt Server)}, refl {a = true})), refl {a = 1}), refl {a = Headed 1 (codes "GET / HTTP/1.1" ++ (13 ∷ (10 ∷ (codes "Host: h.example" ++ (13 ∷ (10 ∷ (codes "Connection: close" ++ (13 ∷ (10 ∷ (13 ∷ (10 ∷ [])))))))))))}), (refl {a = 1}, refl {a = true})), (refl {a = (Select 1 0)}, refl {a = true})), refl {a = 1}), (refl {a = 1}, refl {a = 0}, refl {a = true}, refl {a = true})), refl {a = 2}), refl {a = Headed 2 (codes "GET / HTTP/1.1" ++ (13 ∷ (10 ∷ (codes "Host: h.example" ++ (13 ∷ (10 ∷ (codes "Authorization: Basic dTpw" ++ (13 ∷ (10 ∷ (codes "Connection: close" ++ (13 ∷ (10 ∷ (13 ∷ (10 ∷ []))))))))))))))}), (refl {a = 2}, refl {a = true})), (refl {a = (Note (record { space = 1; ordinal = 1 }))}, refl {a = true})), (refl {a = End}, refl {a = true})), refl {a = Ended (Answered 200)}), refl {a = true})

pub shared_answer_2_is_heard : IsHeard (λ name. ended (stream_in shared_answer_links name)) shared_answer_2_request.method 2 (reverse shared_answer_2)
unfolding httparse_on_literals reply_in reply_len fault_in
shared_answer_2_is_heard = ((((((((((((((tt, tt), tt), tt), tt), refl {a = Some (record { code = 401; stays = true; body = 0; fields = ((codes "Basic realm=\"x\"") ∷ []); server_info = []; proxy_info = [] })}), tt), tt), tt), tt), tt), refl {a = Some (record { code = 200; stays = true; body = 2; fields = []; server_info = []; proxy_info = [] })}), tt), tt), tt)

pub shared_answer_3_is_trace : IsTrace (shared_answer_setting 3 shared_answer_3_request) shared_answer_3
unfolding digits base64_on_literals block_words rounds compress hash_after digest_bytes md5 encode_with first_words schedule rounds256 compress256 hash_after256 digest_bytes256 sha256 challenges_in next_in first_fields
shared_answer_3_is_trace = inl ((((((((((((((tt, (refl {a = Begin}, refl {a = true})), (refl {a = (Preempt Server)}, refl {a = true})), refl {a = 1}), refl {a = Headed 1 (codes "GET / HTTP/1.1" ++ (13 ∷ (10 ∷ (codes "Host: h.example" ++ (13 ∷ (10 ∷ (codes "Connection: close" ++ (13 ∷ (10 ∷ (13 ∷ (10 ∷ [])))))))))))}), (refl {a = 1}, refl {a = true})), (refl {a = (Select 1 0)}, refl {a = true})), (refl {a = (Take 1)}, refl {a = true})), refl {a = 2}), refl {a = Headed 2 (codes "GET / HTTP/1.1" ++ (13 ∷ (10 ∷ (codes "Host: h.example" ++ (13 ∷ (10 ∷ (codes "Authorization: Basic dTpw" ++ (13 ∷ (10 ∷ (codes "Connection: close" ++ (13 ∷ (10 ∷ (13 ∷ (10 ∷ []))))))))))))))}), (refl {a = 2}, refl {a = true})), (refl {a = (Note (record { space = 1; ordinal = 1 }))}, refl {a = true})), (refl {a = End}, refl {a = true})), refl {a = Ended (Answered 200)}), refl {a = true})

pub shared_answer_3_is_heard : IsHeard (λ name. ended (stream_in shared_answer_links name)) shared_answer_3_request.method 3 (reverse shared_answer_3)
unfolding httparse_on_literals reply_in reply_len fault_in
shared_answer_3_is_heard = (((((((((((((tt, tt), tt), tt), tt), refl {a = Some (record { code = 401; stays = true; body = 0; fields = ((codes "Basic realm=\"x\"") ∷ []); server_info = []; proxy_info = [] })}), tt), tt), tt), tt), refl {a = Some (record { code = 200; stays = true; body = 2; fields = []; server_info = []; proxy_info = [] })}), tt), tt), tt)
