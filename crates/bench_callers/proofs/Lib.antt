mod Second
