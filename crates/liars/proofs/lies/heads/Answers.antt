use Rattle.liars.proofs.Refused.{another_password_is_refused, no_identity_is_refused, to_a_proxy_is_refused, to_another_host_is_refused, over_the_first_link_is_refused}
use Rattle.liars.proofs.Proxying.{proxys_to_the_server_is_refused, servers_to_the_proxy_is_refused}
use Rattle.liars.proofs.lies.heads.Goals as goal

pub returns : goal.returns
returns c = record {
  another_password = another_password_is_refused;
  no_identity = no_identity_is_refused;
  to_a_proxy = to_a_proxy_is_refused;
  to_another_host = to_another_host_is_refused;
  over_the_first_link = over_the_first_link_is_refused;
  proxys_to_the_server = proxys_to_the_server_is_refused;
  servers_to_the_proxy = servers_to_the_proxy_is_refused;
}
